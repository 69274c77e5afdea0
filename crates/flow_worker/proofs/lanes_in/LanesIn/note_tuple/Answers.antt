use Rattle.std.proofs.Common.{◌≡◌, ◌∙◌, ◌<◌, List, length, sym, ap, subst}
use Rattle.std.proofs.lemmas.List.{with_items_is}
use Rattle.flow_worker.specs.Endpoints.{LaneInIs}
use Rattle.flow_worker.specs.Masks.{AreMasks}
use Rattle.flow_worker.specs.Steps.{laid_down}
use Rattle.flow_worker.proofs.InMasks.{taken_masks}
use Rattle.flow_worker.proofs.lanes_in.LanesIn.note_tuple.Goals as goal

pub invariant_of-self : goal.invariant_of-self
invariant_of-self g c =
    let was = c.self.inside.lanes in
    let long : length c.note_tuple.new.ins ≡ was.len = c.note_tuple.auto.ins ∙ (ap length c.deref_mut.ensures.value ∙ sym was.ok.0) in
    let ins : c.note_tuple.new.ins ≡ laid_down c.args.place was.items = c.note_tuple.ensures.ins ∙ ap (laid_down c.args.place) c.deref_mut.ensures.value in
    let l : c.args.place < length was.items = subst (λ (xs : List LaneInIs). c.args.place < length xs) (sym c.self.view_is) c.requires.within in
    subst (λ (xs : List LaneInIs). AreMasks c.with_place-self-inside.result c.with_place-self-inside-2.result c.self.inside.newest xs) (sym (with_items_is was c.note_tuple.new.ins long ∙ ins))
    (taken_masks c.self.inside.empty c.self.inside.tuples c.with_place-self-inside.result c.with_place-self-inside-2.result c.self.inside.newest c.args.place was.items c.requires.held.0 l c.with_place-self-inside.ensures c.with_place-self-inside-2.ensures c.self.invariant)
