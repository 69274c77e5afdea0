use Rattle.std.proofs.Common.{ℕ, ◌↔◌, ◌<◌, ◌^◌, length, take}
use Rattle.std.specs.Prelude.{IsTrue, slice_get}
use Rattle.flow_dag.specs.Masks.{Has}
use Rattle.flow_model.specs.Planned.{may_become_split}
use Rattle.flow_model.proofs.masks.may_become_splits.Given as goal

abbrev pub invariant-loop-node : goal.invariant-loop-node
invariant-loop-node l = record {
  has : (node : ℕ) → Has l.mask node ↔ IsTrue (may_become_split (slice_get (take l.node l.nodes) node));
  below : l.mask < 2 ^ length l.nodes;
}
