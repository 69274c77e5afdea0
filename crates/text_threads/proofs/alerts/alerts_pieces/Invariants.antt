use Rattle.std.proofs.Common.{◌≡◌, ◌++◌, ◌∷◌, drop, length}
use Rattle.jobs.specs.Nodes.{worker_count}
use Rattle.sink_journal.specs.Alerts.{all_alerts, header}
use Rattle.text_threads.proofs.alerts.alerts_pieces.Given as goal

abbrev pub invariant-loop-node : goal.invariant-loop-node
invariant-loop-node l = record {
  pieces :
      l.pieces ++ all_alerts l.columns (drop l.node-index l.fn.job.nodes) l.rest
      ≡ header l.fn.job.columns ∷ all_alerts l.fn.job.columns l.fn.job.nodes l.fn.journals;
  journals : length l.rest ≡ worker_count (drop l.node-index l.fn.job.nodes);
}
