use Rattle.std.proofs.Common.{◌≡◌, ◌≤◌, ◌++◌}
use Rattle.audit_live.specs.Shown.{rows_shown}
use Rattle.audit_live.proofs.waits.rows_shown.Given as goal

abbrev pub invariant-loop : goal.invariant-loop
invariant-loop l =
    (l.fed ≤ l.counter) × (l.shown ++ rows_shown l.fed l.records ≡ rows_shown 0 l.fn.records)
