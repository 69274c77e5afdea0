use Rattle.std.proofs.Common.{◌≡◌, ◌∙◌, ◌<◌, ℕ, List, Option, Some, refl, sym, subst, true, arith}
use Rattle.std.specs.Prelude.{◌↔◌}
use Rattle.flow_worker.specs.Endpoints.{Filled, LaneInIs, all_taken}
use Rattle.flow_worker.specs.Masks.{IsTakenFrom, has_empty}
use Rattle.flow_worker.proofs.HandMasks.{IsLeft, fewer_left, first_left, none_left, passes_within, step_left}
use Rattle.flow_worker.proofs.InMasks.{filled_grows, kept_full}
use Rattle.flow_worker.proofs.Pairs.{not_moved}
use Rattle.flow_worker.proofs.lanes_in.LanesIn.fill_each.Goals as goal

pub loop-place-init : goal.loop-place-init
loop-place-init g c =
    let ins = c.args.self.now in
    let mask = c.empty_places-left.result in
    record {
      left = first_left Filled mask ins (λ k d l e. kept_full ins k d l (sym (c.empty_places-left.ensures k) ∙ e));
      within = λ k e. passes_within has_empty ins k (sym (c.empty_places-left.ensures k) ∙ e);
      grew = omega arith;
      moved = ((λ e. absurd (cc)), (λ m. absurd (omega (arith, m))));
    }

pub loop-place-preserved-then-fill_at : goal.loop-place-preserved-then-fill_at
loop-place-preserved-then-fill_at g c =
    let ins = c.args.self.now in
    let place = c.in-Some.place in
    let before = c.loop-place.left in
    let after = c.take_place.new.mask in
    let f = c.fill_at.ensures.filled in
    let taken : IsTakenFrom before (Some place) after = subst (λ (o : Option ℕ). IsTakenFrom before o after) c.in-Some.is c.take_place.ensures in
    let grew = c.loop-place.invariant.grew in
    let more = c.fill_at.ensures.moved.0 c.if-fill_at.true in
    record {
      left = subst (λ (xs : List LaneInIs). IsLeft Filled after ins xs) (sym f.set_is) (step_left Filled place before after ins c.loop-place.self f.at taken (c.loop-place.invariant.within place taken.1) f.filled c.loop-place.invariant.left);
      within = λ k e. c.loop-place.invariant.within k (fewer_left place before after k taken e);
      grew = omega (arith, grew, more);
      moved = ((λ e. omega (arith, grew, more)), (λ m. refl));
    }

pub loop-place-preserved : goal.loop-place-preserved
loop-place-preserved g c =
    let ins = c.args.self.now in
    let place = c.in-Some.place in
    let before = c.loop-place.left in
    let after = c.take_place.new.mask in
    let f = c.fill_at.ensures.filled in
    let taken : IsTakenFrom before (Some place) after = subst (λ (o : Option ℕ). IsTakenFrom before o after) c.in-Some.is c.take_place.ensures in
    let grew = c.loop-place.invariant.grew in
    let long = c.loop-place.invariant.left.long in
    let l = c.loop-place.invariant.within place taken.1 in
    let more = filled_grows place c.loop-place.self c.fill_at.new.self f (omega (arith, long, l)) in
    let same = not_moved (all_taken c.loop-place.self) (all_taken c.fill_at.new.self) c.fill_at.result more c.fill_at.ensures.moved c.if-fill_at.false in
    record {
      left = subst (λ (xs : List LaneInIs). IsLeft Filled after ins xs) (sym f.set_is) (step_left Filled place before after ins c.loop-place.self f.at taken l f.filled c.loop-place.invariant.left);
      within = λ k e. c.loop-place.invariant.within k (fewer_left place before after k taken e);
      grew = omega (arith, grew, more);
      moved = subst (λ n. c.loop-place.moved ≡ true ↔ (all_taken ins < n)) (sym same) c.loop-place.invariant.moved;
    }

pub returns-clause-filled : goal.returns-clause-filled
returns-clause-filled g c =
    let before = c.loop-place.left in
    let after = c.take_place.new.mask in
    none_left Filled before after c.args.self.now c.loop-place.self (subst (λ (o : Option ℕ). IsTakenFrom before o after) c.in_default.is c.take_place.ensures) c.loop-place.invariant.left
