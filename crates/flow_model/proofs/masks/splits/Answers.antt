use Rattle.std.proofs.Common.{◌≡◌, ◌∙◌, ◌+◌, ◌∷◌, ◌++◌, ◌↔◌, ℕ, Bool, [], take, sym, ap, bit_or, subst}
use Rattle.std.specs.Prelude.{IsTrue}
use Rattle.std.specs.List.{list_any}
use Rattle.std.proofs.lemmas.List.{take_more}
use Rattle.std.proofs.lemmas.Nat.{or_lt}
use Rattle.flow_dag.specs.Masks.{Has}
use Rattle.versions.specs.declared.request.Request.{Request}
use Rattle.flow_model.specs.Planned.{makes_split, splits_at}
use Rattle.flow_model.proofs.GatheredLemmas.{either_has, splits-more}
use Rattle.flow_model.proofs.masks.splits.Goals as goal

pub loop-request-preserved : goal.loop-request-preserved
loop-request-preserved c =
    let list = c.args.requests.now in
    let i = c.loop-request.request-index in
    let r : Request = c.request-item.result in
    let made = c.made_splits-mask.result in
    let more : take (i + 1) list ≡ take i list ++ r ∷ [] = take_more list i r c.loop-request-test.true ∙ ap (λ (x : Request). take i list ++ x ∷ []) (sym c.request-item.is) in
    let has : (node : ℕ) → Has made node ↔ IsTrue (list_any (makes_split node) r.changes) = rw c.as_slice.ensures at c.made_splits-mask.ensures.has in
    rw more record {
      has = λ node.
          subst (λ (b : Bool). Has (bit_or c.loop-request.mask made) node ↔ IsTrue b) (sym (splits-more c.args.nodes.now (take i list) r node))
          (either_has c.loop-request.mask made node (splits_at c.args.nodes.now (take i list) node) (list_any (makes_split node) r.changes) (c.loop-request.invariant.has node) (has node));
      below = or_lt _ c.loop-request.mask made c.loop-request.invariant.below c.made_splits-mask.ensures.below;
    }
