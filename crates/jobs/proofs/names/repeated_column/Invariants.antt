use Rattle.std.proofs.Common.{◌≡◌, ◌<◌, ℕ, Some, true}
use Rattle.std.specs.List.{slice_get}
use Rattle.jobs.specs.declared.column.Column.{Column}
use Rattle.jobs.specs.Names.{is_new_column}
use Rattle.jobs.proofs.names.repeated_column.Given as goal

abbrev pub invariant-loop-i : goal.invariant-loop-i
invariant-loop-i l = (k : ℕ) (x : Column) → k < l.i → slice_get l.columns k ≡ Some x → is_new_column l.columns k x ≡ true
