use Rattle.std.proofs.Common.{◌≡◌, ◌<◌, ◌≤◌, ℕ, List, Option, Some, length, refl, sym, subst, true, arith}
use Rattle.std.specs.Prelude.{◌↔◌}
use Rattle.flow_worker.specs.Endpoints.{Flushed, IsSteadyOut, LaneOutIs, sent_in_all}
use Rattle.flow_worker.specs.Masks.{IsTakenFrom}
use Rattle.flow_worker.specs.Pairs.{EachOne}
use Rattle.flow_worker.proofs.HandMasks.{IsLeft, first_left, none_left, skip_left, step_left}
use Rattle.flow_worker.proofs.OutMasks.{first_flushed, flushed_grows, steady_set}
use Rattle.flow_worker.proofs.Pairs.{not_moved}
use Rattle.flow_worker.proofs.lanes_out.LanesOut.flush_marked.Goals as goal
use Rattle.flow_worker.proofs.lanes_out.LanesOut.flush_marked.Goals.{else-place-len-via-then-place-len+else-flush_at, else-place-len-via-else-place-len}

pub loop-place-init : goal.loop-place-init
loop-place-init g c =
    let few : length c.args.self.now ≤ 128 = let a = c.len.ensures in let b = c.if-len-gt-LANE_SET_BITS.false in omega (arith, a, b) in
    record {
      left = first_left Flushed c.waiting_places-left.result c.args.self.now (first_flushed c.waiting_places-left.result c.args.self.now few c.waiting_places-left.ensures);
      steady = c.requires.steady;
      grew = omega arith;
      moved = ((λ e. absurd (cc)), (λ m. absurd (omega (arith, m))));
    }

pub flush_at-requires-clause-steady : goal.flush_at-requires-clause-steady
flush_at-requires-clause-steady g c κs within = c.loop-place.invariant.steady

pub loop-place-preserved-then-flush_at : goal.loop-place-preserved-then-flush_at
loop-place-preserved-then-flush_at g c =
    let place = c.in-Some.place in
    let before = c.loop-place.left in
    let after = c.take_place.new.mask in
    let f = c.flush_at.ensures.flushed in
    let taken : IsTakenFrom before (Some place) after = subst (λ (o : Option ℕ). IsTakenFrom before o after) c.in-Some.is c.take_place.ensures in
    let grew = c.loop-place.invariant.grew in
    let more = c.flush_at.ensures.moved.0 c.if-flush_at.true in
    let l : place < length c.loop-place.self = let a = c.if-place-len.true in let b = c.len-in-Some.ensures in omega (arith, a, b) in
    let w : place < length c.args.self.now = let e = c.loop-place.invariant.left.long in omega (arith, l, e) in
    record {
      left = subst (λ (xs : List LaneOutIs). IsLeft Flushed after c.args.self.now xs) (sym f.set_is) (step_left Flushed place before after c.args.self.now c.loop-place.self f.at taken w f.flushed c.loop-place.invariant.left);
      steady = subst (EachOne IsSteadyOut) (sym f.set_is) (steady_set c.loop-place.self place f.at l f.flushed c.loop-place.invariant.steady);
      grew = omega (arith, grew, more);
      moved = ((λ e. omega (arith, grew, more)), (λ m. refl));
    }

pub loop-place-preserved : goal.loop-place-preserved
loop-place-preserved g c =
    let place = c.in-Some.place in
    let before = c.loop-place.left in
    let after = c.take_place.new.mask in
    let taken : IsTakenFrom before (Some place) after = subst (λ (o : Option ℕ). IsTakenFrom before o after) c.in-Some.is c.take_place.ensures in
    let grew = c.loop-place.invariant.grew in
    elim c.else-place-len.branch [
      | else-place-len-via-then-place-len+else-flush_at w ↦ (
          let f = w.flush_at.ensures.flushed in
          let l : place < length c.loop-place.self = let a = w.if-place-len.true in let b = c.len-in-Some.ensures in omega (arith, a, b) in
          let m : place < length c.args.self.now = let e = c.loop-place.invariant.left.long in omega (arith, l, e) in
          let more = flushed_grows place c.loop-place.self w.flush_at.new.self f l in
          let same = not_moved (sent_in_all c.loop-place.self) (sent_in_all w.flush_at.new.self) w.flush_at.result more w.flush_at.ensures.moved w.if-flush_at.false in
          rw w.self-is (record {
            left = subst (λ (xs : List LaneOutIs). IsLeft Flushed after c.args.self.now xs) (sym f.set_is) (step_left Flushed place before after c.args.self.now c.loop-place.self f.at taken m f.flushed c.loop-place.invariant.left);
            steady = subst (EachOne IsSteadyOut) (sym f.set_is) (steady_set c.loop-place.self place f.at l f.flushed c.loop-place.invariant.steady);
            grew = omega (arith, grew, more);
            moved = subst (λ n. c.loop-place.moved ≡ true ↔ (sent_in_all c.args.self.now < n)) (sym same) c.loop-place.invariant.moved;
          }))
      | else-place-len-via-else-place-len w ↦ (
          let far : length c.args.self.now ≤ place = let a = w.if-place-len.false in let b = c.len-in-Some.ensures in let e = c.loop-place.invariant.left.long in omega (arith, a, b, e) in
          rw w.self-is (record {
            left = skip_left Flushed place before after c.args.self.now c.loop-place.self taken far c.loop-place.invariant.left;
            steady = c.loop-place.invariant.steady;
            grew = grew;
            moved = c.loop-place.invariant.moved;
          }))
    ]

pub returns-clause-flushed : goal.returns-clause-flushed
returns-clause-flushed g c =
    let before = c.loop-place.left in
    let after = c.take_place.new.mask in
    none_left Flushed before after c.args.self.now c.loop-place.self (subst (λ (o : Option ℕ). IsTakenFrom before o after) c.in_default.is c.take_place.ensures) c.loop-place.invariant.left
