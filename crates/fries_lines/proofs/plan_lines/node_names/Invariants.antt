use Rattle.std.proofs.Common.{◌≡◌, ◌++◌, drop}
use Rattle.fries_lines.specs.Lines.{names_from, node_names}
use Rattle.fries_lines.proofs.plan_lines.node_names.Given as goal

abbrev pub invariant-loop-number : goal.invariant-loop-number
invariant-loop-number l = l.names ++ names_from (λ node. node.name) l.mask l.number (drop l.number l.nodes) ≡ node_names l.nodes l.mask
