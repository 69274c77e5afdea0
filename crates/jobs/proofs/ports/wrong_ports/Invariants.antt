use Rattle.std.proofs.Common.{◌≡◌, ◌<◌, ℕ, Some, true}
use Rattle.std.specs.List.{slice_get}
use Rattle.jobs.specs.declared.func.NodeDef.{NodeDef}
use Rattle.jobs.specs.Ports.{are_ports}
use Rattle.jobs.proofs.ports.wrong_ports.Given as goal

abbrev pub invariant-loop-i : goal.invariant-loop-i
invariant-loop-i l = (k : ℕ) (x : NodeDef) → k < l.i → slice_get l.nodes k ≡ Some x → are_ports l.edges k x.func ≡ true
