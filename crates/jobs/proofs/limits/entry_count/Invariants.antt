use Rattle.std.proofs.Common.{◌≡◌, ◌≤◌, ◌+◌, min, drop}
use Rattle.jobs.specs.Limits.{entry_count}
use Rattle.jobs.proofs.limits.entry_count.Given as goal

abbrev pub invariant-loop-table : goal.invariant-loop-table
invariant-loop-table l =
    (l.sum ≤ 18446744073709551615)
    × (min (l.sum + entry_count (drop l.table-index l.tables)) 18446744073709551615 ≡ min (entry_count l.tables) 18446744073709551615)
