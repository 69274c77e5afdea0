use Rattle.std.proofs.Common.{◌≡◌, ◌∙◌, ◌<◌, List, length, sym, ap, subst, arith}
use Rattle.flow_worker.specs.Endpoints.{LaneOutIs}
use Rattle.flow_worker.proofs.OutMasks.{far_marks, one_marked, pushed_marks}
use Rattle.flow_worker.proofs.lanes_out.LanesOut.push_at.Goals as goal

pub invariant_of-self : goal.invariant_of-self
invariant_of-self g c =
    let l : c.args.place < length c.self.inside.lanes.items = subst (λ (xs : List LaneOutIs). c.args.place < length xs) (sym c.self.view_is) c.requires.within in
    let one : length c.self.inside.lanes.items ≡ 1 = let a = c.len.ensures in let b = c.self.inside.lanes.ok.0 in let d = c.if-len-eq1.true in omega (arith, a, b, d) in
    one_marked c.self.inside.waiting c.self.inside.room c.args.place c.self.inside.lanes.items c.push.new.self _ one l (ap (λ (o : LaneOutIs). o.memory) c.push.ensures ∙ ap (λ (o : LaneOutIs). o.memory) c.index_mut.ensures.value) c.self.invariant

pub invariant_of-self-then-place-lt-LANE_SET_BITS : goal.invariant_of-self-then-place-lt-LANE_SET_BITS
invariant_of-self-then-place-lt-LANE_SET_BITS g c =
    let l : c.args.place < length c.self.inside.lanes.items = subst (λ (xs : List LaneOutIs). c.args.place < length xs) (sym c.self.view_is) c.requires.within in
    pushed_marks c.self.inside.waiting c.with_place-self-inside.result c.self.inside.room c.args.place c.self.inside.lanes.items c.push.new.self _ l (ap (λ (o : LaneOutIs). o.memory) c.push.ensures ∙ ap (λ (o : LaneOutIs). o.memory) c.index_mut.ensures.value) c.with_place-self-inside.ensures c.self.invariant

pub invariant_of-self-else-place-lt-LANE_SET_BITS : goal.invariant_of-self-else-place-lt-LANE_SET_BITS
invariant_of-self-else-place-lt-LANE_SET_BITS g c =
    let l : c.args.place < length c.self.inside.lanes.items = subst (λ (xs : List LaneOutIs). c.args.place < length xs) (sym c.self.view_is) c.requires.within in
    far_marks c.self.inside.waiting c.self.inside.room c.args.place c.self.inside.lanes.items c.push.new.self _ l (λ f. let n = c.if-place-lt-LANE_SET_BITS.false in omega (arith, f, n)) (ap (λ (o : LaneOutIs). o.memory) c.push.ensures ∙ ap (λ (o : LaneOutIs). o.memory) c.index_mut.ensures.value) c.self.invariant
