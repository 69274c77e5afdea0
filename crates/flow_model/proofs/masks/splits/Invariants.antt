use Rattle.std.proofs.Common.{ℕ, ◌↔◌, ◌<◌, ◌^◌, length, take}
use Rattle.std.specs.Prelude.{IsTrue}
use Rattle.flow_dag.specs.Masks.{Has}
use Rattle.flow_model.specs.Planned.{splits_at}
use Rattle.flow_model.proofs.masks.splits.Given as goal

abbrev pub invariant-loop-request : goal.invariant-loop-request
invariant-loop-request l = record {
  has : (node : ℕ) → Has l.mask node ↔ IsTrue (splits_at l.nodes (take l.request-index l.requests) node);
  below : l.mask < 2 ^ length l.nodes;
}
