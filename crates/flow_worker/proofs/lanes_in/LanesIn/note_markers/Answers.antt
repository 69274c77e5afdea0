use Rattle.std.proofs.Common.{◌≡◌, ◌∙◌, List, length, sym, ap, subst, bit_and, bit_or}
use Rattle.std.proofs.lemmas.List.{with_items_is}
use Rattle.flow_worker.specs.Endpoints.{LaneInIs}
use Rattle.flow_worker.specs.Masks.{AreMasks}
use Rattle.flow_worker.specs.Steps.{emptied}
use Rattle.flow_worker.proofs.InMasks.{marked_masks}
use Rattle.flow_worker.proofs.lanes_in.LanesIn.note_markers.Goals as goal

pub invariant_of-self : goal.invariant_of-self
invariant_of-self g c =
    let was = c.self.inside.lanes in
    let lanes = c.args.due.now.lanes in
    let long : length c.note_markers.new.ins ≡ was.len = c.note_markers.auto.ins ∙ (ap length c.deref_mut.ensures.value ∙ sym was.ok.0) in
    let ins : c.note_markers.new.ins ≡ emptied lanes 0 was.items = c.note_markers.ensures.ins ∙ ap (emptied lanes 0) c.deref_mut.ensures.value in
    subst (λ (xs : List LaneInIs). AreMasks (bit_or c.self.inside.empty (bit_and lanes c.all_places.result)) c.without-self-inside.result c.self.inside.newest xs) (sym (with_items_is was c.note_markers.new.ins long ∙ ins))
    (marked_masks c.self.inside.empty c.self.inside.tuples c.without-self-inside.result c.self.inside.newest lanes c.all_places.result c.len.result was.items c.without-self-inside.ensures (c.len.ensures ∙ was.ok.0) c.all_places.ensures c.self.invariant)
