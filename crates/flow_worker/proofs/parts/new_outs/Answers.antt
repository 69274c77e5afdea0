use Rattle.std.proofs.Common.{◌≡◌, ◌∙◌, ◌+◌, ◌++◌, ℕ, List, [], ◌∷◌, add-one, ap, arith, drop, length, length-append, map, refl, subst, sym, Some, slice_get}
use Rattle.std.specs.Vec.Iter.{into_iter_items}
use Rattle.flow_model.specs.Setup.{setup_view}
use Rattle.flow_worker.specs.Endpoints.{LaneOutIs}
use Rattle.flow_worker.specs.Parts.{endpoint_out}
use Rattle.lane_core.specs.Lane.{EndpointIs}
use Rattle.flow_worker.specs.Worker.{IsOnLane}
use Rattle.flow_worker.proofs.Making.{drop-rest, each_more, get-drop, moved_over, on_lane}
use Rattle.flow_worker.proofs.parts.new_outs.Goals as goal

pub loop-end-preserved : goal.loop-end-preserved
loop-end-preserved g c =
    let job = (setup_view c.args.setup.now).job in
    let inv = c.loop-end.invariant in
    let old = c.loop-end.outs.items in
    let new = c.push_reserved.new.self.items in
    let end = c.in-Some.end in
    let its = into_iter_items c.loop-end.end-iterator in
    let rest = into_iter_items c.next.new.self in
    let next = c.in-Some.ensures.steps in
    let F : g.row.L-Tx.Denot → EndpointIs = g.L.Tx.Tx.state in
    let N : g.row.L-Tx.Denot → ℕ = λ x. (g.L.Tx.Tx.state x).number in
    let pushed : new ≡ old ++ c.new.result ∷ [] = c.push_reserved.ensures.items in
    let long : length new ≡ length old + 1 = ap (λ (xs : List LaneOutIs). length xs) pushed ∙ length-append old (c.new.result ∷ []) in
    let fewer = ap (length {A = g.row.L-Tx.Denot}) next.0 in
    let dropped : drop (length old) c.args.numbers.now ≡ N end ∷ map N rest = sym inv.numbers ∙ ap (map N) next.0 in
    let at : slice_get c.args.numbers.now (length old) ≡ Some (N end) = get-drop c.args.numbers.now (length old) (N end) (map N rest) dropped in
    record {
      may = tt;
      finite = tt;
      counted = omega (arith, next.1, fewer, inv.counted);
      room = omega (arith, long, fewer, inv.room, c.push_reserved.ensures.capacity);
      ends = moved_over endpoint_out F old new c.new.result its rest end (map F c.args.ends.items) pushed next.0 (ap endpoint_out c.new.ensures) inv.ends;
      numbers = sym (ap (λ k. drop k c.args.numbers.now) (long ∙ add-one (length old)) ∙ drop-rest c.args.numbers.now (length old) (N end) (map N rest) dropped);
      on_lanes = each_more (λ (a : LaneOutIs). IsOnLane job a.number a.edge) old new c.new.result pushed inv.on_lanes
          (subst (λ (a : LaneOutIs). IsOnLane job a.number a.edge) (sym c.new.ensures) (record {
            lane = c.lane-edge.result;
            numbered = on_lane job c.args.numbers.now (length old) c.len.result (N end) _ c.lane-edge.result at (c.len.ensures ∙ c.loop-end.outs.ok.0) c.lane-edge.ensures.lane;
            edge_is = refl;
          }));
      waiting = each_more (λ (out : LaneOutIs). out.waiting ≡ []) old new c.new.result pushed inv.waiting (ap (λ (out : LaneOutIs). out.waiting) c.new.ensures);
    }
