use Rattle.std.proofs.Common.{◌≡◌, ◌<◌, ℕ, Some, true}
use Rattle.std.specs.List.{slice_get}
use Rattle.jobs.specs.declared.func.NodeDef.{NodeDef}
use Rattle.jobs.specs.Names.{is_new_node}
use Rattle.jobs.proofs.names.repeated_node.Given as goal

abbrev pub invariant-loop-i : goal.invariant-loop-i
invariant-loop-i l = (k : ℕ) (x : NodeDef) → k < l.i → slice_get l.nodes k ≡ Some x → is_new_node l.nodes k x ≡ true
