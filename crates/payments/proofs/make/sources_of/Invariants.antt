use Rattle.std.proofs.Common.{◌≡◌, ◌++◌, drop}
use Rattle.payments.specs.Made.{sources_from}
use Rattle.payments.proofs.make.sources_of.Given as goal

abbrev pub invariant-loop-node : goal.invariant-loop-node
invariant-loop-node l = l.sources.items ++ sources_from l.node (drop l.node l.job.nodes) ≡ sources_from 0 l.job.nodes
