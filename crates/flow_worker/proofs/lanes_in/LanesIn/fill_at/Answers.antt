use Rattle.std.proofs.Common.{◌∙◌, ◌<◌, ◌≤◌, List, length, sym, ap, subst, true, false, arith}
use Rattle.flow_worker.specs.Endpoints.{LaneInIs}
use Rattle.flow_worker.specs.Masks.{issued_of, is_empty_hand}
use Rattle.flow_worker.proofs.InMasks.{other_masks, same_masks, took_at, tuple_masks, was_empty}
use Rattle.flow_worker.proofs.lanes_in.LanesIn.fill_at.Goals as goal

pub invariant_of-self : goal.invariant_of-self
invariant_of-self g c =
    let l : c.args.place < length c.self.inside.lanes.items = subst (λ (xs : List LaneInIs). c.args.place < length xs) (sym c.self.view_is) c.requires.within in
    same_masks c.self.inside.empty c.self.inside.tuples c.self.inside.newest c.args.place c.self.inside.lanes.items c.fill.new.self _ l (c.fill.ensures.kept c.if-not-fill.true ∙ ap (λ (a : LaneInIs). a.hand) c.index_mut-lane.ensures.value) c.self.invariant

pub invariant_of-self-then-self-issued : goal.invariant_of-self-then-self-issued
invariant_of-self-then-self-issued g c =
    let l : c.args.place < length c.self.inside.lanes.items = subst (λ (xs : List LaneInIs). c.args.place < length xs) (sym c.self.view_is) c.requires.within in
    let more : c.self.inside.newest ≤ c.in-Some.issued = let m = c.if-self-issued.true in omega (arith, m) in
    tuple_masks c.self.inside.empty c.self.inside.tuples c.with_place-self-inside.result c.with_place-self-inside-in-Some.result c.self.inside.newest c.in-Some.issued c.in-Some.issued c.args.place c.self.inside.lanes.items c.fill.new.self c.fill.new.self l (c.fill.ensures.holds c.if-not-fill.false) (sym c.in-Some.is ∙ (c.issued_in.ensures ∙ ap issued_of c.hand.ensures)) more (omega arith) c.with_place-self-inside.ensures c.with_place-self-inside-in-Some.ensures c.self.invariant

pub invariant_of-self-else-self-issued : goal.invariant_of-self-else-self-issued
invariant_of-self-else-self-issued g c =
    let l : c.args.place < length c.self.inside.lanes.items = subst (λ (xs : List LaneInIs). c.args.place < length xs) (sym c.self.view_is) c.requires.within in
    tuple_masks c.self.inside.empty c.self.inside.tuples c.with_place-self-inside.result c.with_place-self-inside-in-Some.result c.self.inside.newest c.self.inside.newest c.in-Some.issued c.args.place c.self.inside.lanes.items c.fill.new.self c.fill.new.self l (c.fill.ensures.holds c.if-not-fill.false) (sym c.in-Some.is ∙ (c.issued_in.ensures ∙ ap issued_of c.hand.ensures)) (omega arith) c.if-self-issued.false c.with_place-self-inside.ensures c.with_place-self-inside-in-Some.ensures c.self.invariant

pub invariant_of-self-in_default : goal.invariant_of-self-in_default
invariant_of-self-in_default g c =
    let l : c.args.place < length c.self.inside.lanes.items = subst (λ (xs : List LaneInIs). c.args.place < length xs) (sym c.self.view_is) c.requires.within in
    other_masks c.self.inside.empty c.self.inside.tuples c.with_place-self-inside.result c.self.inside.newest c.args.place c.self.inside.lanes.items c.fill.new.self _ l (c.fill.ensures.holds c.if-not-fill.false) (sym c.in_default.is ∙ (c.issued_in.ensures ∙ ap issued_of c.hand.ensures))
    (sym (ap (λ (a : LaneInIs). is_empty_hand a.hand) c.index_mut-lane.ensures.value) ∙ was_empty c.index_mut-lane.result.now c.fill.new.self c.fill.ensures.filled (c.fill.ensures.moved.0 c.if-not-fill.false)) c.with_place-self-inside.ensures c.self.invariant

pub returns-then-not-fill-clause-moved : goal.returns-then-not-fill-clause-moved
returns-then-not-fill-clause-moved g c =
    let l : c.args.place < length c.self.inside.lanes.items = subst (λ (xs : List LaneInIs). c.args.place < length xs) (sym c.self.view_is) c.requires.within in
    took_at c.args.self.now c.self.inside.lanes.items c.args.place _ _ c.fill.new.self c.fill.result false c.self.view_is l c.index_mut-lane.ensures.value c.fill.ensures.moved c.if-not-fill.true

pub returns-then-self-issued-clause-moved : goal.returns-then-self-issued-clause-moved
returns-then-self-issued-clause-moved g c =
    let l : c.args.place < length c.self.inside.lanes.items = subst (λ (xs : List LaneInIs). c.args.place < length xs) (sym c.self.view_is) c.requires.within in
    took_at c.args.self.now c.self.inside.lanes.items c.args.place _ _ c.fill.new.self c.fill.result true c.self.view_is l c.index_mut-lane.ensures.value c.fill.ensures.moved c.if-not-fill.false

pub returns-else-self-issued-clause-moved : goal.returns-else-self-issued-clause-moved
returns-else-self-issued-clause-moved g c =
    let l : c.args.place < length c.self.inside.lanes.items = subst (λ (xs : List LaneInIs). c.args.place < length xs) (sym c.self.view_is) c.requires.within in
    took_at c.args.self.now c.self.inside.lanes.items c.args.place _ _ c.fill.new.self c.fill.result true c.self.view_is l c.index_mut-lane.ensures.value c.fill.ensures.moved c.if-not-fill.false

pub returns-in_default-clause-moved : goal.returns-in_default-clause-moved
returns-in_default-clause-moved g c =
    let l : c.args.place < length c.self.inside.lanes.items = subst (λ (xs : List LaneInIs). c.args.place < length xs) (sym c.self.view_is) c.requires.within in
    took_at c.args.self.now c.self.inside.lanes.items c.args.place _ _ c.fill.new.self c.fill.result true c.self.view_is l c.index_mut-lane.ensures.value c.fill.ensures.moved c.if-not-fill.false
