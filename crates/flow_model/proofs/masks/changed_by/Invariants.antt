use Rattle.std.proofs.Common.{ℕ, ◌↔◌, ◌<◌, ◌^◌, take}
use Rattle.std.specs.Prelude.{IsTrue}
use Rattle.std.specs.List.{list_any}
use Rattle.flow_dag.specs.Masks.{Has}
use Rattle.flow_model.specs.Planned.{names_node}
use Rattle.flow_model.proofs.masks.changed_by.Given as goal

abbrev pub invariant-loop-request : goal.invariant-loop-request
invariant-loop-request l = record {
  has : (node : ℕ) → Has l.mask node ↔ IsTrue (list_any (names_node node) (take l.request-index l.requests));
  below : l.mask < 2 ^ l.count;
}
