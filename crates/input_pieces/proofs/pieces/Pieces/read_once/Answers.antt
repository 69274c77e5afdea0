use Rattle.std.proofs.Common.{◌≡◌, ◌∙◌, ◌++◌, ℕ, List, None, Option, Some, ap, arith, drop, length, rules, subst, sym, take}
use Rattle.std.proofs.lemmas.List.{length-drop, places, take_rest}
use Rattle.csv.specs.Reading.{default_config}
use Rattle.csv.specs.declared.parser.State.TheVariants as st
use Rattle.input_pieces.specs.Cut.{IsLastCut, has_cut, state_after}
use Rattle.input_pieces.specs.Places.{state_of}
use Rattle.input_pieces.proofs.ScanLemmas.{came_cut_at, came_place, came_uncut, grown_is}
use Rattle.input_pieces.proofs.pieces.Pieces.read_once.Goals as goal

pub invariant_of-self-in-Some : goal.invariant_of-self-in-Some
invariant_of-self-in-Some g c =
    let old = c.args.self.now in
    let kept = old.kept.items in
    let grown = c.read_behind.new.text.items in
    let from = c.len-from.result in
    let s = state_of old.place in
    let long : from ≡ length kept = search (rules, places) in
    let is : grown ≡ kept ++ drop from grown = grown_is kept c.read_behind.ensures.gathered.0 grown from long c.read_behind.ensures.gathered.2 in
    let rest = take_rest c.as_slice.result.now from ∙ ap (drop from) c.as_slice.ensures.value in
    let some : c.scan-place.result.cut ≡ Some c.in-Some.cut = cc in
    let P : List ℕ → Type 0 = λ l. IsLastCut default_config s l c.scan-place.result.cut in
    let Q : Option ℕ → Type 0 = λ o. IsLastCut default_config s (drop from grown) o in
    let last : IsLastCut default_config s (drop from grown) (Some c.in-Some.cut) = subst Q some (subst P rest c.scan-place.ensures.cut) in
    let both = came_cut_at default_config s kept (drop from grown) grown from c.in-Some.cut long old.placed is last in
    record {
      placed = came_place default_config s (state_of c.scan-place.result.place) kept (drop from grown) grown old.placed is (c.scan-place.ensures.place ∙ ap (state_after default_config s) rest);
      within = omega (arith, last.1, length-drop from grown, c.in_ok-count.ensures.count, long);
      cut = both.0;
      uncut = both.1;
      short = omega (arith, c.in_ok-count.ensures.count, c.in_ok-count.ensures.most, long);
    }

pub invariant_of-self-in-None : goal.invariant_of-self-in-None
invariant_of-self-in-None g c =
    let old = c.args.self.now in
    let kept = old.kept.items in
    let grown = c.read_behind.new.text.items in
    let from = c.len-from.result in
    let s = state_of old.place in
    let long : from ≡ length kept = search (rules, places) in
    let is : grown ≡ kept ++ drop from grown = grown_is kept c.read_behind.ensures.gathered.0 grown from long c.read_behind.ensures.gathered.2 in
    let rest = take_rest c.as_slice.result.now from ∙ ap (drop from) c.as_slice.ensures.value in
    let none : c.scan-place.result.cut ≡ None = cc in
    let P : List ℕ → Type 0 = λ l. IsLastCut default_config s l c.scan-place.result.cut in
    let Q : Option ℕ → Type 0 = λ o. IsLastCut default_config s (drop from grown) o in
    let last : IsLastCut default_config s (drop from grown) None = subst Q none (subst P rest c.scan-place.ensures.cut) in
    let before = sym (ap (λ k. has_cut default_config st.StartRecord (drop k kept)) c.requires.unready) ∙ old.uncut in
    record {
      placed = came_place default_config s (state_of c.scan-place.result.place) kept (drop from grown) grown old.placed is (c.scan-place.ensures.place ∙ ap (state_after default_config s) rest);
      within = omega (arith, c.requires.unready);
      cut = ap (λ k. state_after default_config st.StartRecord (take k grown)) c.requires.unready;
      uncut = ap (λ k. has_cut default_config st.StartRecord (drop k grown)) c.requires.unready ∙ came_uncut default_config s kept (drop from grown) grown old.placed is before last;
      short = omega (arith, c.in_ok-count.ensures.count, c.in_ok-count.ensures.most, long);
    }
