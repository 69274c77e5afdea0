use Rattle.std.proofs.Common.{◌≡◌, ◌∙◌, ◌+◌, ◌∷◌, ◌++◌, ◌↔◌, ℕ, Bool, [], take, sym, ap, bit_or, subst}
use Rattle.std.specs.Prelude.{IsTrue}
use Rattle.std.specs.List.{list_any}
use Rattle.std.proofs.lemmas.List.{take_more}
use Rattle.std.proofs.lemmas.Nat.{or_lt}
use Rattle.flow_dag.specs.Masks.{Has}
use Rattle.versions.specs.Book.{is_named}
use Rattle.versions.specs.declared.request.Request.{Request}
use Rattle.flow_model.specs.Planned.{names_node}
use Rattle.flow_model.proofs.GatheredLemmas.{any_more, either_has}
use Rattle.flow_model.proofs.masks.changed_by.Goals as goal

pub loop-request-preserved : goal.loop-request-preserved
loop-request-preserved c =
    let list = c.args.requests.now in
    let i = c.loop-request.request-index in
    let r : Request = c.request-item.result in
    let own = c.changed-mask.result in
    let more : take (i + 1) list ≡ take i list ++ r ∷ [] = take_more list i r c.loop-request-test.true ∙ ap (λ (x : Request). take i list ++ x ∷ []) (sym c.request-item.is) in
    let has : (node : ℕ) → Has own node ↔ IsTrue (is_named r.changes node) = rw c.as_slice.ensures at c.changed-mask.ensures.has in
    rw more record {
      has = λ node.
          subst (λ (b : Bool). Has (bit_or c.loop-request.mask own) node ↔ IsTrue b) (sym (any_more (names_node node) (take i list) r))
          (either_has c.loop-request.mask own node (list_any (names_node node) (take i list)) (names_node node r) (c.loop-request.invariant.has node) (has node));
      below = or_lt _ c.loop-request.mask own c.loop-request.invariant.below c.changed-mask.ensures.below;
    }
