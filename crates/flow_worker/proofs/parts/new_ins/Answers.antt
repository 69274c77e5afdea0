use Rattle.std.proofs.Common.{◌≡◌, ◌∙◌, ◌+◌, ◌++◌, ℕ, List, [], ◌∷◌, add-one, ap, arith, drop, length, length-append, map, refl, subst, sym, Some, slice_get}
use Rattle.std.specs.Vec.Iter.{into_iter_items}
use Rattle.marker_align.specs.declared.held.Hand.TheVariants.{Empty}
use Rattle.flow_model.specs.Setup.{setup_view}
use Rattle.flow_worker.specs.Endpoints.{LaneInIs}
use Rattle.flow_worker.specs.Parts.{endpoint_in}
use Rattle.lane_core.specs.Lane.{EndpointIs}
use Rattle.flow_worker.specs.Worker.{IsOnLane}
use Rattle.flow_worker.proofs.Making.{drop-rest, each_more, get-drop, moved_over, on_lane}
use Rattle.flow_worker.proofs.parts.new_ins.Goals as goal

pub loop-end-preserved : goal.loop-end-preserved
loop-end-preserved g c =
    let job = (setup_view c.args.setup.now).job in
    let inv = c.loop-end.invariant in
    let old = c.loop-end.ins.items in
    let new = c.push_reserved.new.self.items in
    let end = c.in-Some.end in
    let its = into_iter_items c.loop-end.end-iterator in
    let rest = into_iter_items c.next.new.self in
    let next = c.in-Some.ensures.steps in
    let F : g.row.L-Rx.Denot → EndpointIs = g.L.Rx.Rx.state in
    let N : g.row.L-Rx.Denot → ℕ = λ x. (g.L.Rx.Rx.state x).number in
    let pushed : new ≡ old ++ c.new.result ∷ [] = c.push_reserved.ensures.items in
    let long : length new ≡ length old + 1 = ap (λ (xs : List LaneInIs). length xs) pushed ∙ length-append old (c.new.result ∷ []) in
    let fewer = ap (length {A = g.row.L-Rx.Denot}) next.0 in
    let dropped : drop (length old) c.args.numbers.now ≡ N end ∷ map N rest = sym inv.numbers ∙ ap (map N) next.0 in
    let at : slice_get c.args.numbers.now (length old) ≡ Some (N end) = get-drop c.args.numbers.now (length old) (N end) (map N rest) dropped in
    record {
      may = tt;
      finite = tt;
      counted = omega (arith, next.1, fewer, inv.counted);
      room = omega (arith, long, fewer, inv.room, c.push_reserved.ensures.capacity);
      ends = moved_over endpoint_in F old new c.new.result its rest end (map F c.args.ends.items) pushed next.0 (ap endpoint_in c.new.ensures) inv.ends;
      numbers = sym (ap (λ k. drop k c.args.numbers.now) (long ∙ add-one (length old)) ∙ drop-rest c.args.numbers.now (length old) (N end) (map N rest) dropped);
      on_lanes = each_more (λ (a : LaneInIs). IsOnLane job a.number a.edge) old new c.new.result pushed inv.on_lanes
          (subst (λ (a : LaneInIs). IsOnLane job a.number a.edge) (sym c.new.ensures) (record {
            lane = c.lane-edge.result;
            numbered = on_lane job c.args.numbers.now (length old) c.len.result (N end) _ c.lane-edge.result at (c.len.ensures ∙ c.loop-end.ins.ok.0) c.lane-edge.ensures.lane;
            edge_is = refl;
          }));
      hands = each_more (λ (a : LaneInIs). a.hand ≡ Empty) old new c.new.result pushed inv.hands (ap (λ (a : LaneInIs). a.hand) c.new.ensures);
    }
