use Rattle.std.proofs.Common.{ℕ, ◌↔◌, ◌<◌, ◌^◌, length, take}
use Rattle.std.specs.Prelude.{IsTrue}
use Rattle.flow_dag.specs.Masks.{Has}
use Rattle.flow_model.specs.Planned.{copies_at}
use Rattle.flow_model.proofs.masks.copies.Given as goal

abbrev pub invariant-loop-node : goal.invariant-loop-node
invariant-loop-node l = record {
  has : (node : ℕ) → Has l.mask node ↔ IsTrue (copies_at (take l.node l.nodes) node);
  below : l.mask < 2 ^ length l.nodes;
}
