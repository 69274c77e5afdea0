use Rattle.std.proofs.Common.{ℕ, ◌↔◌, ◌<◌, ◌^◌, length, take}
use Rattle.std.specs.Prelude.{IsTrue, slice_get}
use Rattle.flow_dag.specs.Masks.{Has}
use Rattle.flow_model.specs.Planned.{is_split_node}
use Rattle.flow_model.proofs.masks.job_splits.Given as goal

abbrev pub invariant-loop-node : goal.invariant-loop-node
invariant-loop-node l = record {
  has : (node : ℕ) → Has l.mask node ↔ IsTrue (is_split_node (slice_get (take l.node l.nodes) node));
  below : l.mask < 2 ^ length l.nodes;
}
