use Rattle.std.proofs.Common.{◌≡◌, ◌++◌, drop}
use Rattle.audit_live.specs.Shown.{waits_from}
use Rattle.audit_live.proofs.waits.waits_of.Given as goal

abbrev pub invariant-loop-place : goal.invariant-loop-place
invariant-loop-place l =
    l.waits ++ waits_from l.rows l.least (drop l.place l.accepted) (drop l.place l.shown)
    ≡ waits_from l.rows 0 l.accepted l.shown
