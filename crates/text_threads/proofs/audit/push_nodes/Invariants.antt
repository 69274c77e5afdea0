use Rattle.std.proofs.Common.{◌≡◌, ◌++◌, drop, length}
use Rattle.jobs.specs.Nodes.{worker_count}
use Rattle.sink_journal.specs.Audit.{nodes_records}
use Rattle.text_threads.proofs.audit.push_nodes.Given as goal

abbrev pub invariant-loop-node : goal.invariant-loop-node
invariant-loop-node l = record {
  pieces :
      l.pieces ++ nodes_records (drop l.node-index l.fn.job.nodes) l.journals l.states
      ≡ l.fn.pieces ++ nodes_records l.fn.job.nodes l.fn.journals l.fn.states;
  journals : length l.journals ≡ worker_count (drop l.node-index l.fn.job.nodes);
  states : length l.states ≡ worker_count (drop l.node-index l.fn.job.nodes);
}
