use Rattle.std.proofs.Common.{ℕ, ◌↔◌, ◌<◌, ◌^◌, take}
use Rattle.std.specs.Prelude.{IsTrue}
use Rattle.flow_dag.specs.Masks.{Has}
use Rattle.versions.specs.Book.{is_named}
use Rattle.flow_model.proofs.masks.changed.Given as goal

abbrev pub invariant-loop-change : goal.invariant-loop-change
invariant-loop-change l = record {
  has : (node : ℕ) → Has l.mask node ↔ IsTrue (is_named (take l.change-index l.changes) node);
  below : l.mask < 2 ^ l.count;
}
