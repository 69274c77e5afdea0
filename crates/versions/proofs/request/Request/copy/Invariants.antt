use Rattle.std.proofs.Common.{◌≡◌, take}
use Rattle.versions.proofs.request.Request.copy.Given as goal

abbrev pub invariant-loop-change : goal.invariant-loop-change
invariant-loop-change l = l.changes ≡ take l.change-index l.change-items
