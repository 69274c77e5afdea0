use Rattle.std.proofs.Common.{◌≡◌, ◌∙◌, ◌≤◌, List, length, sym, ap, subst, arith}
use Rattle.std.proofs.lemmas.List.{with_items_is}
use Rattle.flow_worker.specs.Endpoints.{LaneInIs}
use Rattle.flow_worker.specs.Masks.{AreMasks}
use Rattle.flow_worker.specs.Steps.{all_emptied}
use Rattle.flow_worker.proofs.InMasks.{emptied_all, length_emptied, new_masks}
use Rattle.flow_worker.proofs.lanes_in.LanesIn.note_ends.Goals as goal

pub invariant_of-self : goal.invariant_of-self
invariant_of-self g c =
    let was = c.self.inside.lanes in
    let long : length c.note_ends.new.ins ≡ was.len = c.note_ends.auto.ins ∙ (ap length c.deref_mut.ensures.value ∙ sym was.ok.0) in
    let ins : c.note_ends.new.ins ≡ all_emptied was.items = c.note_ends.ensures.ins ∙ ap all_emptied c.deref_mut.ensures.value in
    let few : length (all_emptied was.items) ≤ 127 = let a = length_emptied was.items in let b = c.self.invariant.few in omega (arith, a, b) in
    subst (λ (xs : List LaneInIs). AreMasks c.all_places-self-inside.result 0 c.self.inside.newest xs) (sym (with_items_is was c.note_ends.new.ins long ∙ ins))
    (new_masks c.self.inside.newest c.all_places-self-inside.result c.len.result (all_emptied was.items) (c.len.ensures ∙ (was.ok.0 ∙ sym (length_emptied was.items))) c.all_places-self-inside.ensures (emptied_all was.items) few)
