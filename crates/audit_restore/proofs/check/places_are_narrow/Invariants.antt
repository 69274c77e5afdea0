use Rattle.std.proofs.Common.{◌<◌, ◌^◌, All, take}
use Rattle.audit_restore.proofs.check.places_are_narrow.Given as goal

abbrev pub invariant-loop-noted : goal.invariant-loop-noted
invariant-loop-noted l = All (λ noted. noted.place < 2 ^ 32) (take l.noted-index l.refused)
