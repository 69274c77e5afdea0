use Rattle.std.proofs.Common.{ℕ, ◌↔◌, ◌<◌, ◌^◌, take}
use Rattle.std.specs.Prelude.{IsTrue}
use Rattle.std.specs.List.{list_any}
use Rattle.flow_dag.specs.Masks.{Has}
use Rattle.flow_model.specs.Planned.{makes_split}
use Rattle.flow_model.proofs.masks.made_splits.Given as goal

abbrev pub invariant-loop-change : goal.invariant-loop-change
invariant-loop-change l = record {
  has : (node : ℕ) → Has l.mask node ↔ IsTrue (list_any (makes_split node) (take l.change-index l.changes));
  below : l.mask < 2 ^ l.count;
}
