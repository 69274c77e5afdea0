use Rattle.std.proofs.Common.{◌≡◌, ◌<◌, ℕ, Some, true}
use Rattle.std.specs.List.{slice_get}
use Rattle.jobs.specs.declared.func.NodeDef.{NodeDef}
use Rattle.jobs.specs.Fits.{fits_table}
use Rattle.jobs.proofs.fitting.wrong_table.Given as goal

abbrev pub invariant-loop-i : goal.invariant-loop-i
invariant-loop-i l = (k : ℕ) (x : NodeDef) → k < l.i → slice_get l.nodes k ≡ Some x → fits_table l.tables x.func ≡ true
