use Rattle.std.proofs.Common.{◌≡◌, ◌++◌, drop}
use Rattle.fries_lines.specs.Lines.{refused_lines}
use Rattle.fries_lines.proofs.refused_lines.lines_of.Given as goal

abbrev pub invariant-loop-request : goal.invariant-loop-request
invariant-loop-request l = l.lines ++ refused_lines (drop l.request-index l.refused) ≡ refused_lines l.refused
