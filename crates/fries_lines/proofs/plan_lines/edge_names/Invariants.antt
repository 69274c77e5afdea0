use Rattle.std.proofs.Common.{◌≡◌, ◌++◌, drop}
use Rattle.fries_lines.specs.Lines.{edge_name, edge_names, names_from}
use Rattle.fries_lines.proofs.plan_lines.edge_names.Given as goal

abbrev pub invariant-loop-number : goal.invariant-loop-number
invariant-loop-number l = l.names ++ names_from (edge_name l.nodes) l.mask l.number (drop l.number l.edges) ≡ edge_names l.nodes l.edges l.mask
