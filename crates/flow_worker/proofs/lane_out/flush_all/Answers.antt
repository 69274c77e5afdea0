use Rattle.std.proofs.Common.{◌≡◌, ◌<◌, length, set, refl, sym, subst, true, arith, add-one}
use Rattle.std.specs.Prelude.{◌↔◌}
use Rattle.flow_worker.specs.Endpoints.{LaneOutIs, Flushed, IsSteadyOut, sent_in_all}
use Rattle.flow_worker.proofs.Pairs.{first_more, first_all, first_next, not_moved, sum_grows, sum_moved, sum_rises, each_get}
use Rattle.flow_worker.proofs.lane_out.flush_all.Goals as goal
use Rattle.flow_worker.proofs.lane_out.flush_all.Goals.{then-flush, else-flush}

pub loop-out-preserved : goal.loop-out-preserved
loop-out-preserved g c =
    let n = c.loop-out.out-index in
    let items = c.loop-out.out-items in
    let d = c.out-item.result in
    let z = c.flush.new.self in
    let lt : n < length items = omega arith in
    let same = sum_grows (λ (o : LaneOutIs). length o.sent) items n d z lt c.flush.ensures.flushed.grew in
    record {
      pairs = rw add-one (first_more Flushed n c.args.outs.now items d z c.loop-out.invariant.pairs lt c.flush.ensures.flushed);
      grew = omega arith;
      moved = elim c.if-flush.branch [
        | then-flush w ↦ rw w.moved-is ((λ h. omega (arith, sum_rises (λ (o : LaneOutIs). length o.sent) items n d z lt (c.flush.ensures.moved.0 w.if-flush.true))), (λ h. refl))
        | else-flush w ↦ (let still = not_moved (sent_in_all items) (sent_in_all (set items n z)) c.flush.result same (sum_moved (λ (o : LaneOutIs). length o.sent) items n d z c.flush.result lt c.flush.ensures.moved) w.if-flush.false in
            rw w.moved-is (subst (λ m. c.loop-out.moved ≡ true ↔ (sent_in_all c.args.outs.now < m)) (sym still) c.loop-out.invariant.moved))
      ];
    }

pub returns-clause-flushed : goal.returns-clause-flushed
returns-clause-flushed g c = first_all Flushed c.loop-out.out-index c.args.outs.now c.loop-out.out-items c.loop-out.invariant.pairs (omega arith)

pub flush-requires-clause-steady : goal.flush-requires-clause-steady
flush-requires-clause-steady g c κs up =
    let n = c.loop-out.out-index in
    let d = c.out-item.result in
    subst IsSteadyOut (sym (first_next Flushed n c.args.outs.now c.loop-out.out-items d c.loop-out.invariant.pairs)) (each_get IsSteadyOut c.args.outs.now n d c.requires.steady (omega arith))
