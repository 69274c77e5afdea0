use Rattle.std.proofs.Common.{take}
use Rattle.std.specs.Prelude.{All}
use Rattle.audit_fault.specs.Noting.{IsNoted}
use Rattle.fries_lines.specs.Lines.{noted}
use Rattle.fries_lines.proofs.refused_lines.refused_are_noted.Given as goal

abbrev pub invariant-loop-one : goal.invariant-loop-one
invariant-loop-one l = All (λ refused. IsNoted (noted refused)) (take l.one-index l.refused)
