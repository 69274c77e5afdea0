use Rattle.std.proofs.Common.{◌∙◌, ◌<◌, List, length, sym, ap, subst}
use Rattle.flow_worker.specs.Endpoints.{Flushed, LaneOutIs}
use Rattle.flow_worker.proofs.OutMasks.{cleared_marks, flushed_marks, moved_at}
use Rattle.flow_worker.proofs.lanes_out.LanesOut.flush_at.Goals as goal
use Rattle.flow_worker.proofs.lanes_out.LanesOut.flush_at.Goals.{else-not-is_waiting-via-then-not-is_waiting+else-place-lt-LANE_SET_BITS, else-not-is_waiting-via-else-not-is_waiting}

pub invariant_of-self : goal.invariant_of-self
invariant_of-self g c =
    let l : c.args.place < length c.self.inside.lanes.items = subst (λ (xs : List LaneOutIs). c.args.place < length xs) (sym c.self.view_is) c.requires.within in
    cleared_marks c.self.inside.waiting c.with_place-self-inside.result c.self.inside.room c.args.place c.self.inside.lanes.items c.flush-moved.new.self _ l (sym c.is_waiting.ensures ∙ c.if-not-is_waiting.true) (c.flush-moved.ensures.memory ∙ ap (λ (o : LaneOutIs). o.memory) c.index_mut-lane.ensures.value) c.with_place-self-inside.ensures c.self.invariant

pub invariant_of-self-else-place-lt-LANE_SET_BITS : goal.invariant_of-self-else-place-lt-LANE_SET_BITS
invariant_of-self-else-place-lt-LANE_SET_BITS g c =
    let l : c.args.place < length c.self.inside.lanes.items = subst (λ (xs : List LaneOutIs). c.args.place < length xs) (sym c.self.view_is) c.requires.within in
    flushed_marks c.self.inside.waiting c.self.inside.room c.args.place c.self.inside.lanes.items c.flush-moved.new.self _ l (subst (λ (o : LaneOutIs). Flushed o c.flush-moved.new.self) c.index_mut-lane.ensures.value c.flush-moved.ensures.flushed) (c.flush-moved.ensures.memory ∙ ap (λ (o : LaneOutIs). o.memory) c.index_mut-lane.ensures.value) c.self.invariant

pub invariant_of-self-else-not-is_waiting : goal.invariant_of-self-else-not-is_waiting
invariant_of-self-else-not-is_waiting g c =
    let l : c.args.place < length c.self.inside.lanes.items = subst (λ (xs : List LaneOutIs). c.args.place < length xs) (sym c.self.view_is) c.requires.within in
    flushed_marks c.self.inside.waiting c.self.inside.room c.args.place c.self.inside.lanes.items c.flush-moved.new.self _ l (subst (λ (o : LaneOutIs). Flushed o c.flush-moved.new.self) c.index_mut-lane.ensures.value c.flush-moved.ensures.flushed) (c.flush-moved.ensures.memory ∙ ap (λ (o : LaneOutIs). o.memory) c.index_mut-lane.ensures.value) c.self.invariant

pub returns-then-place-lt-LANE_SET_BITS-clause-moved : goal.returns-then-place-lt-LANE_SET_BITS-clause-moved
returns-then-place-lt-LANE_SET_BITS-clause-moved g c =
    let l : c.args.place < length c.self.inside.lanes.items = subst (λ (xs : List LaneOutIs). c.args.place < length xs) (sym c.self.view_is) c.requires.within in
    moved_at c.args.self.now c.self.inside.lanes.items c.args.place _ _ c.flush-moved.new.self c.flush-moved.result c.self.view_is l c.index_mut-lane.ensures.value c.flush-moved.ensures.moved

pub returns-else-not-is_waiting-clause-moved : goal.returns-else-not-is_waiting-clause-moved
returns-else-not-is_waiting-clause-moved g c =
    let l : c.args.place < length c.self.inside.lanes.items = subst (λ (xs : List LaneOutIs). c.args.place < length xs) (sym c.self.view_is) c.requires.within in
    let moved = moved_at c.args.self.now c.self.inside.lanes.items c.args.place _ _ c.flush-moved.new.self c.flush-moved.result c.self.view_is l c.index_mut-lane.ensures.value c.flush-moved.ensures.moved in
    elim c.else-not-is_waiting.branch [
      | else-not-is_waiting-via-then-not-is_waiting+else-place-lt-LANE_SET_BITS w ↦ rw w.self-is moved
      | else-not-is_waiting-via-else-not-is_waiting w ↦ rw w.self-is moved
    ]
