use Rattle.std.proofs.Common.{◌≡◌, drop}
use Rattle.jobs.specs.Limits.{first_oversize, table_oversize}
use Rattle.jobs.proofs.limits.tables_fault.Given as goal

abbrev pub invariant-loop-table : goal.invariant-loop-table
invariant-loop-table l = first_oversize table_oversize (drop l.table-index l.tables) ≡ first_oversize table_oversize l.tables
