use Rattle.std.proofs.Common.{◌≡◌, ◌++◌, drop, length}
use Rattle.jobs.specs.Nodes.{worker_count}
use Rattle.sink_journal.specs.Alerts.{all_alerts}
use Rattle.sink_journal.specs.Records.{records_text}
use Rattle.sink_journal.proofs.alerts.write_alerts.Given as goal

abbrev pub invariant-loop-node : goal.invariant-loop-node
invariant-loop-node l = record {
  text :
      l.lines ++ records_text (all_alerts l.columns (drop l.node-index l.fn.job.nodes) l.rest)
      ≡ l.fn.lines ++ records_text (all_alerts l.fn.job.columns l.fn.job.nodes l.fn.journals);
  journals : length l.rest ≡ worker_count (drop l.node-index l.fn.job.nodes);
}
