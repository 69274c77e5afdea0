use Rattle.std.proofs.Common.{◌≡◌, ◌<◌, ◌^◌, All, decimal, map, take}
use Rattle.audit_check.specs.Parts.{texts_of}
use Rattle.audit_check.proofs.spelling.numbers_in.Given as goal

abbrev pub invariant-loop-part : goal.invariant-loop-part
invariant-loop-part l = (texts_of (take l.part-index l.parts) ≡ map decimal l.births) × All (λ birth. birth < 2 ^ 32) l.births
