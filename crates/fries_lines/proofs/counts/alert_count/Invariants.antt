use Rattle.std.proofs.Common.{◌≡◌, ◌+◌, drop, length}
use Rattle.jobs.specs.Nodes.{worker_count}
use Rattle.fries_lines.specs.Lines.{alert_count}
use Rattle.fries_lines.proofs.counts.alert_count.Given as goal

abbrev pub invariant-loop-node : goal.invariant-loop-node
invariant-loop-node l = record {
  count : l.count + alert_count (drop l.node-index l.fn.job.nodes) l.rest ≡ alert_count l.fn.job.nodes l.fn.journals;
  journals : length l.rest ≡ worker_count (drop l.node-index l.fn.job.nodes);
}
