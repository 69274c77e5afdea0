-- What the decision tells of the hands.
use Rattle.std.proofs.Common.{◌≡◌, ◌∙◌, ◌==◌, ℕ, zero, suc, ◌+◌, ◌-◌, ◌<◌, List, [], ◌∷◌, Bool, true, false, not, ◌||◌, cond, map, length, take, drop, get_or, refl, sym, ap, subst, arith, Option, Some, None, slice_get, length-drop}
use Rattle.std.specs.Prelude.{option_map, unwrap_or}
use Rattle.std.specs.List.{enumerate_from, list_all, list_any, position}
use Rattle.std.specs.Option.{option_or}
use Rattle.std.proofs.lemmas.Bool.{and_parts, eqb-true}
use Rattle.std.proofs.lemmas.Grind.{common_steps}
use Rattle.std.proofs.lemmas.List.Quantifiers.{position-Some}
use Rattle.flow_dag.specs.Masks.{has}
use Rattle.marker_align.specs.Decision.{decided, is_aligned, may_turn, next_tuple}
use Rattle.marker_align.specs.Hands.{is_issued, is_last, is_marker, is_tuple}
use Rattle.marker_align.specs.declared.decision.Act.{Act}
use Rattle.marker_align.specs.declared.decision.Act.TheVariants.{Turn, Process, Close, Nothing}
use Rattle.marker_align.specs.declared.decision.Due.{Due}
use Rattle.marker_align.specs.declared.held.Hand.{Hand}
use Rattle.marker_align.specs.declared.held.Hand.TheVariants.{Empty, Holds}
use Rattle.tuple_trace.specs.declared.tuple.Item.TheVariants.{Carry, Mark, Last}
use Rattle.versions.proofs.BookLemmas.{neither}
use Rattle.flow_worker.specs.Endpoints.{LaneInIs}
use Rattle.flow_worker.specs.Pairs.{EachOne}
use Rattle.flow_worker.specs.Steps.{HasTuple}
use Rattle.flow_worker.proofs.Marking.{HoldMarker}

abbrev pub all_hands : List LaneInIs → List Hand
all_hands ins = map (λ (a : LaneInIs). a.hand) ins

-- ---- which rule applied

abbrev pick : Option Act → Option ℕ → Option Act → Act
pick turn place close = unwrap_or (option_or turn (option_or (option_map Process place) close)) Nothing

pub turns_if : (hands : List Hand) (due : Due) (posted : Bool) (start r : ℕ) → decided hands (Some due) posted start ≡ Turn r → (may_turn hands due posted ≡ true) × (r ≡ due.request)
turns_if hands due posted start r e = go (may_turn hands due posted) (next_tuple start hands) e
  where
    go : (b : Bool) (o : Option ℕ) → pick (cond b (Some (Turn due.request)) None) o None ≡ Turn r → (b ≡ true) × (r ≡ due.request)
    go true o e = (refl, (let q : due.request ≡ r = cc in sym q))
    go false None e = absurd (cc)
    go false (Some k) e = absurd (cc)

pub no_due_no_turn : (hands : List Hand) (posted : Bool) (start r : ℕ) → decided hands None posted start ≡ Turn r → ⊥
no_due_no_turn hands posted start r e = go (next_tuple start hands) (list_all is_last hands) e
  where
    go : (o : Option ℕ) (b : Bool) → pick None o (cond b (Some Close) None) ≡ Turn r → ⊥
    go None true e = cc
    go None false e = cc
    go (Some k) b e = cc

pub processes_if : (hands : List Hand) (due : Due) (posted : Bool) (start place : ℕ) → decided hands (Some due) posted start ≡ Process place
    → (may_turn hands due posted ≡ false) × (next_tuple start hands ≡ Some place)
processes_if hands due posted start place e = go (may_turn hands due posted) (next_tuple start hands) e
  where
    go : (b : Bool) (o : Option ℕ) → pick (cond b (Some (Turn due.request)) None) o None ≡ Process place → (b ≡ false) × (o ≡ Some place)
    go true o e = absurd (cc)
    go false None e = absurd (cc)
    go false (Some k) e = (refl, (let q : k ≡ place = cc in ap Some q))

pub processes_none : (hands : List Hand) (posted : Bool) (start place : ℕ) → decided hands None posted start ≡ Process place → next_tuple start hands ≡ Some place
processes_none hands posted start place e = go (next_tuple start hands) (list_all is_last hands) e
  where
    go : (o : Option ℕ) (b : Bool) → pick None o (cond b (Some Close) None) ≡ Process place → o ≡ Some place
    go None true e = absurd (cc)
    go None false e = absurd (cc)
    go (Some k) b e = let q : k ≡ place = cc in ap Some q

pub closes_if : (hands : List Hand) (due : Option Due) (posted : Bool) (start : ℕ) → decided hands due posted start ≡ Close → (due ≡ None) × (list_all is_last hands ≡ true)
closes_if hands None posted start e = (refl, go (next_tuple start hands) (list_all is_last hands) e)
  where
    go : (o : Option ℕ) (b : Bool) → pick None o (cond b (Some Close) None) ≡ Close → b ≡ true
    go None true e = refl
    go None false e = absurd (cc)
    go (Some k) b e = absurd (cc)
closes_if hands (Some due) posted start e = absurd (go (may_turn hands due posted) (next_tuple start hands) e)
  where
    go : (b : Bool) (o : Option ℕ) → pick (cond b (Some (Turn due.request)) None) o None ≡ Close → ⊥
    go true o e = cc
    go false None e = cc
    go false (Some k) e = cc

-- where the due may turn, it does
pub turn_first : (hands : List Hand) (due : Due) (posted : Bool) (start : ℕ) → may_turn hands due posted ≡ true → decided hands (Some due) posted start ≡ Turn due.request
turn_first hands due posted start e = rw e refl

-- ---- markers in hand

marker_is : (r c : ℕ) (hand : Hand) → is_marker r c hand ≡ true → hand ≡ Holds (Mark r c)
marker_is r c Empty e = absurd (cc)
marker_is r c (Holds (Carry t)) e = absurd (cc)
marker_is r c (Holds (Mark q d)) e =
    let p = and_parts (q == r) (d == c) e in
    let x : q ≡ r = eqb-true q r p.0 in
    let y : d ≡ c = eqb-true d c p.1 in
    cc
marker_is r c (Holds Last) e = absurd (cc)

pub hold_marker : (mask r c i : ℕ) (ins : List LaneInIs) → list_all (λ (p : ℕ × Hand). not (has mask p.0) || is_marker r c p.1) (enumerate_from i (all_hands ins)) ≡ true → HoldMarker mask r c i ins
hold_marker mask r c i [] e = tt
hold_marker mask r c i (a ∷ more) e =
    let p = and_parts (not (has mask i) || is_marker r c a.hand) (list_all (λ (p : ℕ × Hand). not (has mask p.0) || is_marker r c p.1) (enumerate_from (i + 1) (all_hands more))) e in
    ((λ h. marker_is r c a.hand (or_second (has mask i) (is_marker r c a.hand) h p.0)), hold_marker mask r c (i + 1) more p.1)
  where
    or_second : (x y : Bool) → x ≡ true → (not x || y) ≡ true → y ≡ true
    or_second true y h e = e
    or_second false y h e = absurd (cc)

-- ---- tuples in hand

-- no hand is issued under the due of a head where the decision isn't to turn
pub not_issued : (hands : List Hand) (due : Due) (posted : Bool) → may_turn hands due posted ≡ false → due.head ≡ true → (posted ≡ false) × (list_any (is_issued due.request) hands ≡ false)
not_issued hands due posted e h =
    neither posted (list_any (is_issued due.request) hands) (subst (λ b. cond b (posted || list_any (is_issued due.request) hands) (is_aligned due hands) ≡ false) h e)

pub none_at : (p : Hand → Bool) (ins : List LaneInIs) (k : ℕ) (a : LaneInIs) → list_any p (all_hands ins) ≡ false → slice_get ins k ≡ Some a → p a.hand ≡ false
none_at p [] k a e g = absurd (cc)
none_at p (b ∷ more) zero a e g = let q : b ≡ a = cc in subst (λ (x : LaneInIs). p x.hand ≡ false) q (neither (p b.hand) (list_any p (all_hands more)) e).0
none_at p (b ∷ more) (suc k) a e g = none_at p more k a (neither (p b.hand) (list_any p (all_hands more)) e).1 g

get_drop : (hands : List Hand) (start k : ℕ) (d : Hand) → get_or (drop start hands) k d ≡ get_or hands (start + k) d
get_drop hands start k d = grind (arith, common_steps)

get_take : (hands : List Hand) (start k : ℕ) (d : Hand) → k < length (take start hands) → get_or (take start hands) k d ≡ get_or hands k d
get_take hands start k d l = grind (arith, common_steps)

take_within : (hands : List Hand) (start k : ℕ) → k < length (take start hands) → k < length hands
take_within hands start k l = grind (arith, common_steps)

next_is : (start place : ℕ) (hands : List Hand) (d : Hand) → next_tuple start hands ≡ Some place → (place < length hands) × (is_tuple (get_or hands place d) ≡ true)
next_is start place hands d e = go (position is_tuple (drop start hands)) refl e
  where
    go : (o : Option ℕ) → position is_tuple (drop start hands) ≡ o → option_or (option_map (λ k. start + k) o) (position is_tuple (take start hands)) ≡ Some place
        → (place < length hands) × (is_tuple (get_or hands place d) ≡ true)
    go (Some k) q e =
        let r = position-Some is_tuple (drop start hands) k d q in
        let same : start + k ≡ place = cc in
        let len : length (drop start hands) ≡ length hands - start = length-drop start hands in
        ((let l = r.0 in omega arith), subst (λ n. is_tuple (get_or hands n d) ≡ true) same (sym (ap is_tuple (get_drop hands start k d)) ∙ r.1))
    go None q e =
        let r = position-Some is_tuple (take start hands) place d e in
        (take_within hands start place r.0, sym (ap is_tuple (get_take hands start place d r.0)) ∙ r.1)

tuple_there : (ins : List LaneInIs) (place : ℕ) (d : Hand) → place < length (all_hands ins) → is_tuple (get_or (all_hands ins) place d) ≡ true → (place < length ins) × HasTuple ins place
tuple_there [] place d l e = absurd (omega arith)
tuple_there (a ∷ more) zero d l e = (omega arith, go a.hand refl e)
  where
    go : (hand : Hand) → a.hand ≡ hand → is_tuple hand ≡ true → HasTuple (a ∷ more) zero
    go Empty q e = absurd (cc)
    go (Holds (Carry t)) q e = (a, t, refl, q)
    go (Holds (Mark r c)) q e = absurd (cc)
    go (Holds Last) q e = absurd (cc)
tuple_there (a ∷ more) (suc place) d l e = let r = tuple_there more place d (omega arith) e in ((let l = r.0 in omega arith), r.1)

place_of_act : (hands : List Hand) (due : Option Due) (posted : Bool) (start place : ℕ) → decided hands due posted start ≡ Process place → next_tuple start hands ≡ Some place
place_of_act hands None posted start place e = processes_none hands posted start place e
place_of_act hands (Some due) posted start place e = (processes_if hands due posted start place e).1

-- where the act is a tuple, one is in hand there
pub act_tuple : (ins : List LaneInIs) (due : Option Due) (posted : Bool) (start place : ℕ) → decided (all_hands ins) due posted start ≡ Process place → (place < length ins) × HasTuple ins place
act_tuple ins due posted start place e =
    let r = next_is start place (all_hands ins) Empty (place_of_act (all_hands ins) due posted start place e) in
    tuple_there ins place Empty r.0 r.1

-- ---- ends in hand

last_is : (hand : Hand) → is_last hand ≡ true → hand ≡ Holds Last
last_is Empty e = absurd (cc)
last_is (Holds (Carry t)) e = absurd (cc)
last_is (Holds (Mark q d)) e = absurd (cc)
last_is (Holds Last) e = refl

pub all_last : (ins : List LaneInIs) → list_all is_last (all_hands ins) ≡ true → EachOne (λ (a : LaneInIs). a.hand ≡ Holds Last) ins
all_last [] e = tt
all_last (a ∷ more) e = let p = and_parts (is_last a.hand) (list_all is_last (all_hands more)) e in (last_is a.hand p.0, all_last more p.1)
