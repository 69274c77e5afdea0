-- The masks beside a worker's hands.
use Rattle.std.proofs.Common.{◌≡◌, ◌∙◌, ℕ, zero, suc, ◌+◌, ◌<◌, ◌≤◌, ◌||◌, ◌&&◌, not, nat_lt, List, [], ◌∷◌, Bool, true, false, cond, Some, None, get_or, set, length, refl, sym, ap, subst, arith, bit_and, bit_or}
use Rattle.std.specs.Prelude.{◌↔◌, IsTrue}
use Rattle.std.proofs.lemmas.Bool.Decides.{nat_tests}
use Rattle.std.proofs.lemmas.List.{length-set}
use Rattle.flow_dag.specs.Masks.{has}
use Rattle.marker_align.specs.Hands.{is_tuple}
use Rattle.marker_align.specs.declared.held.Hand.{Hand}
use Rattle.marker_align.specs.declared.held.Hand.TheVariants.{Empty, Holds}
use Rattle.tuple_trace.specs.declared.tuple.Item.TheVariants.{Carry, Mark, Last}
use Rattle.flow_worker.specs.Endpoints.{Filled, LaneInIs, all_taken}
use Rattle.flow_worker.specs.Masks.{AreMasks, FilledAt, IsFedBy, IsMaskWith, has_empty, has_tuple, is_empty_hand, issued_of, passes}
use Rattle.flow_worker.specs.Pairs.{EachOne}
use Rattle.flow_worker.specs.Steps.{all_emptied, emptied, laid_down}
use Rattle.flow_worker.proofs.HandMasks.{each_set, mask_kept, mask_set, passes_get}
use Rattle.flow_worker.proofs.MaskLemmas.{has_and, has_or, has_zero}
use Rattle.flow_worker.proofs.Pairs.{each_get, each_map, sum_grows, sum_moved}
use Rattle.flow_worker.proofs.Taking.{set_laid}

-- ---- all hands are empty

all_empty : (ins : List LaneInIs) → EachOne (λ (a : LaneInIs). a.hand ≡ Empty) ins → (k : ℕ) → nat_lt k (length ins) ≡ passes has_empty ins k
all_empty [] e k = grind (arith, nat_tests)
all_empty (a ∷ more) e zero = (let t : nat_lt zero (suc (length more)) ≡ true = grind (arith, nat_tests) in t) ∙ sym (ap is_empty_hand e.0)
all_empty (a ∷ more) e (suc k) = less k (length more) ∙ all_empty more e.1 k
  where
    less : (k n : ℕ) → nat_lt (suc k) (suc n) ≡ nat_lt k n
    less k n = grind (arith, nat_tests)

no_tuples : (ins : List LaneInIs) → EachOne (λ (a : LaneInIs). a.hand ≡ Empty) ins → (k : ℕ) → passes has_tuple ins k ≡ false
no_tuples [] e k = refl
no_tuples (a ∷ more) e zero = ap is_tuple e.0
no_tuples (a ∷ more) e (suc k) = no_tuples more e.1 k

fed_empty : (newest : ℕ) (ins : List LaneInIs) → EachOne (λ (a : LaneInIs). a.hand ≡ Empty) ins → EachOne (IsFedBy newest) ins
fed_empty newest ins e = each_map (λ (a : LaneInIs). a.hand ≡ Empty) (IsFedBy newest) ins (λ a h t q. absurd (cc)) e

pub new_masks : (newest all count : ℕ) (ins : List LaneInIs) → count ≡ length ins → ((k : ℕ) → has all k ≡ nat_lt k count) → EachOne (λ (a : LaneInIs). a.hand ≡ Empty) ins → length ins ≤ 127 → AreMasks all 0 newest ins
new_masks newest all count ins long is e few = record {
  empty_is = λ k. is k ∙ (ap (λ n. nat_lt k n) long ∙ all_empty ins e k);
  tuples_is = λ k. has_zero k ∙ sym (no_tuples ins e k);
  newest_is = fed_empty newest ins e;
  few = few;
}

pub emptied_all : (ins : List LaneInIs) → EachOne (λ (a : LaneInIs). a.hand ≡ Empty) (all_emptied ins)
emptied_all [] = tt
emptied_all (a ∷ more) = (refl, emptied_all more)

pub length_emptied : (ins : List LaneInIs) → length (all_emptied ins) ≡ length ins
length_emptied [] = refl
length_emptied (a ∷ more) = ap suc (length_emptied more)

-- ---- a hand is emptied

pub taken_masks : (e t e' t' newest place : ℕ) (ins : List LaneInIs) (d : LaneInIs) → place < length ins → IsMaskWith place true e e' → IsMaskWith place false t t' → AreMasks e t newest ins → AreMasks e' t' newest (laid_down place ins)
taken_masks e t e' t' newest place ins d l empty tuples are =
    let z : LaneInIs = record (get_or ins place d) { hand = Empty } in
    subst (λ xs. AreMasks e' t' newest xs) (set_laid ins place d z l refl) (record {
      empty_is = mask_set has_empty ins place e e' z true l refl empty are.empty_is;
      tuples_is = mask_set has_tuple ins place t t' z false l refl tuples are.tuples_is;
      newest_is = each_set (IsFedBy newest) ins place z are.newest_is (λ t q. absurd (cc));
      few = let n = length-set ins place z in let f = are.few in omega (arith, n, f);
    })

-- ---- a hand is filled

weaker : (n m : ℕ) (ins : List LaneInIs) → n ≤ m → EachOne (IsFedBy n) ins → EachOne (IsFedBy m) ins
weaker n m ins l e = each_map (IsFedBy n) (IsFedBy m) ins (λ a h t q. let w = h t q in omega (arith, w, l)) e

not_tuple : (hand : Hand) → is_empty_hand hand ≡ true → is_tuple hand ≡ false
not_tuple Empty e = refl
not_tuple (Holds item) e = absurd (cc)

-- an item came into an empty hand
pub was_empty : (a b : LaneInIs) → Filled a b → length a.taken < length b.taken → is_empty_hand a.hand ≡ true
was_empty a b f l = go a.hand refl
  where
    go : (hand : Hand) → a.hand ≡ hand → is_empty_hand hand ≡ true
    go Empty q = refl
    go (Holds item) q =
        let same : b ≡ a = f.full_hand (λ e. let x : Holds item ≡ Empty = sym q ∙ e in cc) in
        let n : length b.taken ≡ length a.taken = ap (λ (c : LaneInIs). length c.taken) same in
        absurd (omega (arith, l, n))

pub tuple_masks : (e t e' t' newest newer issued place : ℕ) (ins : List LaneInIs) (z d : LaneInIs) → place < length ins → is_empty_hand z.hand ≡ false → Some issued ≡ issued_of z.hand →
    newest ≤ newer → issued ≤ newer → IsMaskWith place false e e' → IsMaskWith place true t t' → AreMasks e t newest ins → AreMasks e' t' newer (set ins place z)
tuple_masks e t e' t' newest newer issued place ins z d l holds is more at empty tuples are = record {
  empty_is = mask_set has_empty ins place e e' z false l holds empty are.empty_is;
  tuples_is = mask_set has_tuple ins place t t' z true l (go z.hand is) tuples are.tuples_is;
  newest_is = each_set (IsFedBy newer) ins place z (weaker newest newer ins more are.newest_is) (λ u q. let s : Some issued ≡ Some u.issued = is ∙ ap issued_of q in let i : issued ≡ u.issued = cc in omega (arith, at, i));
  few = let n = length-set ins place z in let f = are.few in omega (arith, n, f);
}
  where
    go : (hand : Hand) → Some issued ≡ issued_of hand → is_tuple hand ≡ true
    go Empty q = absurd (cc)
    go (Holds (Carry u)) q = refl
    go (Holds (Mark r c)) q = absurd (cc)
    go (Holds Last) q = absurd (cc)

pub other_masks : (e t e' newest place : ℕ) (ins : List LaneInIs) (z d : LaneInIs) → place < length ins → is_empty_hand z.hand ≡ false → None ≡ issued_of z.hand →
    is_empty_hand (get_or ins place d).hand ≡ true → IsMaskWith place false e e' → AreMasks e t newest ins → AreMasks e' t newest (set ins place z)
other_masks e t e' newest place ins z d l holds is was empty are = record {
  empty_is = mask_set has_empty ins place e e' z false l holds empty are.empty_is;
  tuples_is = mask_kept has_tuple ins place t d z l (go z.hand is ∙ sym (not_tuple (get_or ins place d).hand was)) are.tuples_is;
  newest_is = each_set (IsFedBy newest) ins place z are.newest_is (λ u q. let s : None ≡ Some u.issued = is ∙ ap issued_of q in absurd (cc));
  few = let n = length-set ins place z in let f = are.few in omega (arith, n, f);
}
  where
    go : (hand : Hand) → None ≡ issued_of hand → is_tuple hand ≡ false
    go Empty q = refl
    go (Holds (Carry u)) q = absurd (cc)
    go (Holds (Mark r c)) q = refl
    go (Holds Last) q = refl

-- nothing came
pub same_masks : (e t newest place : ℕ) (ins : List LaneInIs) (z d : LaneInIs) → place < length ins → z.hand ≡ (get_or ins place d).hand → AreMasks e t newest ins → AreMasks e t newest (set ins place z)
same_masks e t newest place ins z d l same are = record {
  empty_is = mask_kept has_empty ins place e d z l (ap is_empty_hand same) are.empty_is;
  tuples_is = mask_kept has_tuple ins place t d z l (ap is_tuple same) are.tuples_is;
  newest_is = each_set (IsFedBy newest) ins place z are.newest_is (λ u q. each_at_place are.newest_is u (sym same ∙ q));
  few = let n = length-set ins place z in let f = are.few in omega (arith, n, f);
}
  where
    each_at_place : EachOne (IsFedBy newest) ins → IsFedBy newest (get_or ins place d)
    each_at_place h = each_get (IsFedBy newest) ins place d h l

-- ---- markers are put down

put_down : (mask i : ℕ) (ins : List LaneInIs) (k : ℕ) → passes has_empty (emptied mask i ins) k ≡ (passes has_empty ins k || (has mask (i + k) && nat_lt k (length ins)))
put_down mask i [] k = let t : nat_lt k 0 ≡ false = grind (arith, nat_tests) in rw t (last (has mask (i + k)))
  where
    last : (b : Bool) → false ≡ (false || (b && false))
    last true = refl
    last false = refl
put_down mask i (a ∷ more) zero =
    let s : i + 0 ≡ i = omega arith in
    let t : nat_lt zero (suc (length more)) ≡ true = grind (arith, nat_tests) in
    rw (s, t) (go (has mask i) (is_empty_hand a.hand) refl)
  where
    go : (b c : Bool) → is_empty_hand a.hand ≡ c → is_empty_hand (cond b (record a { hand = Empty }) a).hand ≡ (c || (b && true))
    go true true e = refl
    go true false e = refl
    go false true e = e
    go false false e = e
put_down mask i (a ∷ more) (suc k) = put_down mask (i + 1) more k ∙ (ap (λ n. passes has_empty more k || (has mask n && nat_lt k (length more))) (let s : i + 1 + k ≡ i + suc k = omega arith in s) ∙ ap (λ b. passes has_empty more k || (has mask (i + suc k) && b)) (less k (length more)))
  where
    less : (k n : ℕ) → nat_lt k n ≡ nat_lt (suc k) (suc n)
    less k n = grind (arith, nat_tests)

tuples_left : (mask i : ℕ) (ins : List LaneInIs) (k : ℕ) → passes has_tuple (emptied mask i ins) k ≡ (passes has_tuple ins k && not (has mask (i + k)))
tuples_left mask i [] k = refl
tuples_left mask i (a ∷ more) zero = let s : i + 0 ≡ i = omega arith in rw s (go (has mask i) (is_tuple a.hand) refl)
  where
    go : (b c : Bool) → is_tuple a.hand ≡ c → is_tuple (cond b (record a { hand = Empty }) a).hand ≡ (c && not b)
    go true true e = refl
    go true false e = refl
    go false true e = e
    go false false e = e
tuples_left mask i (a ∷ more) (suc k) = tuples_left mask (i + 1) more k ∙ ap (λ n. passes has_tuple more k && not (has mask n)) (let s : i + 1 + k ≡ i + suc k = omega arith in s)

fed_left : (newest mask i : ℕ) (ins : List LaneInIs) → EachOne (IsFedBy newest) ins → EachOne (IsFedBy newest) (emptied mask i ins)
fed_left newest mask i [] e = tt
fed_left newest mask i (a ∷ more) e = (go (has mask i), fed_left newest mask (i + 1) more e.1)
  where
    go : (b : Bool) → IsFedBy newest (cond b (record a { hand = Empty }) a)
    go true t q = absurd (cc)
    go false t q = e.0 t q

pub length_left : (mask i : ℕ) (ins : List LaneInIs) → length (emptied mask i ins) ≡ length ins
length_left mask i [] = refl
length_left mask i (a ∷ more) = ap suc (length_left mask (i + 1) more)

pub marked_masks : (e t t' newest lanes all count : ℕ) (ins : List LaneInIs) → ((k : ℕ) → has t' k ≡ (has t k && not (has lanes k))) → count ≡ length ins → ((k : ℕ) → has all k ≡ nat_lt k count) → AreMasks e t newest ins →
    AreMasks (bit_or e (bit_and lanes all)) t' newest (emptied lanes 0 ins)
marked_masks e t t' newest lanes all count ins without long is are = record {
  empty_is = λ k. has_or e (bit_and lanes all) k ∙ (ap (λ b. has e k || b) (has_and lanes all k ∙ ap (λ b. has lanes k && b) (is k ∙ ap (λ n. nat_lt k n) long)) ∙ (ap (λ b. b || (has lanes k && nat_lt k (length ins))) (are.empty_is k) ∙ sym (put_down lanes 0 ins k ∙ ap (λ n. passes has_empty ins k || (has lanes n && nat_lt k (length ins))) (let s : 0 + k ≡ k = omega arith in s))));
  tuples_is = λ k. without k ∙ (ap (λ b. b && not (has lanes k)) (are.tuples_is k) ∙ sym (tuples_left lanes 0 ins k ∙ ap (λ n. passes has_tuple ins k && not (has lanes n)) (let s : 0 + k ≡ k = omega arith in s)));
  newest_is = fed_left newest lanes 0 ins are.newest_is;
  few = let n = length_left lanes 0 ins in let f = are.few in omega (arith, n, f);
}

pub took_at : (ins items : List LaneInIs) (place : ℕ) (d lane z : LaneInIs) (took answer : Bool) → items ≡ ins → place < length items → lane ≡ get_or items place d → (IsTrue took ↔ (length lane.taken < length z.taken)) → took ≡ answer
    → IsTrue answer ↔ (all_taken ins < all_taken (set items place z))
took_at ins items place d lane z took answer same l at h e =
    let all = sum_moved (λ (a : LaneInIs). length a.taken) items place d z took l (subst (λ (a : LaneInIs). IsTrue took ↔ (length a.taken < length z.taken)) at h) in
    subst (λ (xs : List LaneInIs). IsTrue answer ↔ (all_taken xs < all_taken (set items place z))) same (subst (λ (b : Bool). IsTrue b ↔ (all_taken items < all_taken (set items place z))) e all)

pub filled_grows : (place : ℕ) (xs ys : List LaneInIs) → FilledAt place xs ys → place < length xs → all_taken xs ≤ all_taken ys
filled_grows place xs ys f l = rw f.set_is (sum_grows (λ (a : LaneInIs). length a.taken) xs place f.at f.at l f.filled.grew)

pub kept_full : (ins : List LaneInIs) (k : ℕ) (d : LaneInIs) → k < length ins → passes has_empty ins k ≡ false → Filled (get_or ins k d) (get_or ins k d)
kept_full ins k d l e = still (get_or ins k d) (sym (passes_get has_empty ins k d l) ∙ e)
  where
    still : (a : LaneInIs) → is_empty_hand a.hand ≡ false → Filled a a
    still a full = record {
      same = (refl, refl, refl, refl);
      full_hand = λ n. refl;
      kept = λ before e. e;
      steady = λ s. s;
      grew = omega arith;
      dry = λ e. absurd (let t : is_empty_hand a.hand ≡ true = ap is_empty_hand e in cc);
    }
