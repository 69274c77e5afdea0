use Rattle.std.proofs.Common.{◌≡◌, ◌∷◌, drop}
use Rattle.std.specs.List.{join_with_byte}
use Rattle.fries_lines.proofs.plan_lines.listed.Given as goal

abbrev pub invariant-loop-text : goal.invariant-loop-text
invariant-loop-text l = join_with_byte 44 (l.list ∷ drop l.text-index l.later) ≡ join_with_byte 44 l.texts
