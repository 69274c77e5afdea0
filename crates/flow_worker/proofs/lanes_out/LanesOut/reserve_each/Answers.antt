use Rattle.std.proofs.Common.{◌∙◌, List, sym, subst}
use Rattle.std.proofs.lemmas.List.{with_items_is}
use Rattle.flow_worker.specs.Endpoints.{LaneOutIs, Reserved, SameButMemory}
use Rattle.flow_worker.specs.Masks.{AreMarked}
use Rattle.flow_worker.specs.Pairs.{EachPair}
use Rattle.flow_worker.proofs.Pairs.{pairs_length}
use Rattle.flow_worker.proofs.Results.{err_fact, ok_fact}
use Rattle.flow_worker.proofs.OutMasks.{reserved_marks, starved_marks}
use Rattle.flow_worker.proofs.lanes_out.LanesOut.reserve_each.Goals as goal

pub invariant_of-self : goal.invariant_of-self
invariant_of-self g c =
    let was = c.self.inside.lanes in
    let now = c.reserve_each.new.outs in
    let p : EachPair SameButMemory was.items now = subst (λ xs. EachPair SameButMemory xs now) c.deref_mut.ensures.value (err_fact c.reserve_each.result (sym c.is_err.ensures.value ∙ c.if-is_err.true) c.reserve_each.ensures.err) in
    subst (λ (xs : List LaneOutIs). AreMarked c.self.inside.waiting 0 xs) (sym (with_items_is was now (pairs_length SameButMemory was.items now p ∙ sym was.ok.0)))
    (starved_marks c.self.inside.waiting was.items now p c.self.invariant.waiting_is)

pub invariant_of-self-2 : goal.invariant_of-self-2
invariant_of-self-2 g c =
    let was = c.self.inside.lanes in
    let now = c.reserve_each.new.outs in
    let p : EachPair (Reserved c.args.more) was.items now = subst (λ xs. EachPair (Reserved c.args.more) xs now) c.deref_mut.ensures.value (ok_fact c.reserve_each.result (sym c.is_err.ensures.value ∙ c.if-is_err.false) c.reserve_each.ensures.ok) in
    subst (λ (xs : List LaneOutIs). AreMarked c.self.inside.waiting c.args.more xs) (sym (with_items_is was now (pairs_length (Reserved c.args.more) was.items now p ∙ sym was.ok.0)))
    (reserved_marks c.args.more c.self.inside.waiting was.items now p c.self.invariant.waiting_is)
