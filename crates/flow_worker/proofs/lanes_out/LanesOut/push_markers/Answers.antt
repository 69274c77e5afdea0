use Rattle.std.proofs.Common.{◌≡◌, ◌∙◌, List, length, sym, ap, subst, arith}
use Rattle.std.proofs.lemmas.List.{with_items_is}
use Rattle.flow_worker.specs.Endpoints.{LaneOutIs}
use Rattle.flow_worker.specs.Masks.{AreMarked}
use Rattle.flow_worker.proofs.OutMasks.{all_marks}
use Rattle.flow_worker.proofs.lanes_out.LanesOut.push_markers.Goals as goal

pub invariant_of-self : goal.invariant_of-self
invariant_of-self g c =
    let was = c.self.inside.lanes in
    let long : length c.push_markers.new.outs ≡ was.len = c.push_markers.auto.outs ∙ (ap length c.deref_mut.ensures.value ∙ sym was.ok.0) in
    subst (λ (xs : List LaneOutIs). AreMarked c.first_places-self-inside.result 0 xs) (sym (with_items_is was c.push_markers.new.outs long))
    (all_marks c.first_places-self-inside.result c.push_markers.new.outs (λ k l m. c.first_places-self-inside.ensures k l (let e = c.len.ensures in omega (arith, m, long, e))))
