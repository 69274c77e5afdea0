use Rattle.std.proofs.Common.{◌≡◌, ◌++◌, drop, length}
use Rattle.jobs.specs.Job.{job_view}
use Rattle.jobs.specs.Nodes.{worker_count}
use Rattle.sink_journal.specs.Audit.{audit_records, nodes_records}
use Rattle.sink_journal.specs.Records.{records_text}
use Rattle.sink_journal.proofs.audit.write_records.Given as goal

abbrev pub invariant-loop-node : goal.invariant-loop-node
invariant-loop-node l = record {
  text :
      l.audit ++ records_text (nodes_records (drop l.node-index l.fn.job.nodes) l.journals l.states)
      ≡ l.fn.audit ++ records_text (audit_records (job_view l.fn.job) l.fn.refused l.fn.feeds l.fn.journals l.fn.states);
  journals : length l.journals ≡ worker_count (drop l.node-index l.fn.job.nodes);
  states : length l.states ≡ worker_count (drop l.node-index l.fn.job.nodes);
}
