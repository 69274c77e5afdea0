-- The decision from the masks.
use Rattle.std.proofs.Common.{◌≡◌, ◌∙◌, ◌⊎◌, inl, inr, ℕ, zero, suc, ◌+◌, ◌-◌, ◌/◌, ◌%◌, ◌<◌, ◌≤◌, not, nat_lt, List, [], ◌∷◌, Bool, true, false, cond, Option, Some, None, take, drop, length, refl, sym, ap, arith, bit_and, bit_or}
use Rattle.std.specs.Int.{bit_at}
use Rattle.std.specs.List.{list_all, list_any, position, prefix_len}
use Rattle.std.proofs.lemmas.Bool.{cases_lt}
use Rattle.std.proofs.lemmas.Bool.Decides.{nat_tests}
use Rattle.std.proofs.lemmas.Nat.Bits.{bit_at_lowest, bit_at-suc}
use Rattle.flow_dag.specs.Masks.{has}
use Rattle.flow_dag.proofs.MaskLemmas.{Has-and_both, Has-or_cases}
use Rattle.marker_align.specs.Decision.{close, decided, is_aligned, next_tuple, turn}
use Rattle.marker_align.specs.Hands.{is_issued, is_last, is_tuple}
use Rattle.marker_align.specs.declared.decision.Act.TheVariants.{Turn, Process, Close, Nothing}
use Rattle.marker_align.specs.declared.decision.Due.{Due}
use Rattle.marker_align.specs.declared.held.Hand.{Hand}
use Rattle.marker_align.specs.declared.held.Hand.TheVariants.{Empty, Holds}
use Rattle.tuple_trace.specs.declared.tuple.Item.TheVariants.{Carry, Mark, Last}
use Rattle.flow_worker.specs.Endpoints.{LaneInIs}
use Rattle.flow_worker.specs.Masks.{AreMasks, IsFedBy, IsFirstFrom, IsMaskOf, has_empty, has_tuple, is_empty_hand, passes}
use Rattle.flow_worker.specs.Pairs.{EachOne}
use Rattle.flow_worker.proofs.Deciding.{all_hands, all_last, hold_marker}
use Rattle.flow_worker.proofs.HandMasks.{passes_within}
use Rattle.flow_worker.proofs.Marking.{HoldMarker}
use Rattle.flow_worker.proofs.MaskLemmas.{one_bit}

-- ---- the first tuple

first_len : {A : Type 0} (p : A → Bool) (xs : List A) (k : ℕ) → passes p xs k ≡ true → ((j : ℕ) → j < k → passes p xs j ≡ false) → prefix_len (λ x. not (p x)) xs ≡ k
first_len p [] k e low = absurd (cc)
first_len p (x ∷ xs) zero e low = let t : p x ≡ true = e in rw t refl
first_len p (x ∷ xs) (suc k) e low =
    let f : p x ≡ false = low 0 (omega arith) in
    let n = first_len p xs k e (λ j l. low (suc j) (omega (arith, l))) in
    rw f (omega (arith, n))

none_len : {A : Type 0} (p : A → Bool) (xs : List A) → ((j : ℕ) → passes p xs j ≡ false) → prefix_len (λ x. not (p x)) xs ≡ length xs
none_len p [] low = refl
none_len p (x ∷ xs) low =
    let f : p x ≡ false = low 0 in
    let n = none_len p xs (λ j. low (suc j)) in
    rw f (omega (arith, n))

first_position : {A : Type 0} (p : A → Bool) (xs : List A) (k : ℕ) → passes p xs k ≡ true → ((j : ℕ) → j < k → passes p xs j ≡ false) → position p xs ≡ Some k
first_position p xs k e low =
    let l = passes_within p xs k e in
    let t : nat_lt k (length xs) ≡ true = grind (arith, nat_tests) in
    rw (first_len p xs k e low, t) refl

no_position : {A : Type 0} (p : A → Bool) (xs : List A) → ((j : ℕ) → passes p xs j ≡ false) → position p xs ≡ None
no_position p xs low =
    let t : nat_lt (length xs) (length xs) ≡ false = grind (arith, nat_tests) in
    rw (none_len p xs low, t) refl

passes_drop : {A : Type 0} (p : A → Bool) (xs : List A) (n k : ℕ) → passes p (drop n xs) k ≡ passes p xs (n + k)
passes_drop p xs zero k = ap (λ m. passes p xs m) (let q : k ≡ 0 + k = omega arith in q)
passes_drop p [] (suc n) k = refl
passes_drop p (x ∷ xs) (suc n) k = passes_drop p xs n k ∙ ap (λ m. passes p (x ∷ xs) m) (let q : suc (n + k) ≡ suc n + k = omega arith in q)

passes_take : {A : Type 0} (p : A → Bool) (xs : List A) (n k : ℕ) → k < n → passes p (take n xs) k ≡ passes p xs k
passes_take p xs zero k l = absurd (omega (arith, l))
passes_take p [] (suc n) k l = refl
passes_take p (x ∷ xs) (suc n) zero l = refl
passes_take p (x ∷ xs) (suc n) (suc k) l = passes_take p xs n k (omega (arith, l))

passes_past : {A : Type 0} (p : A → Bool) (xs : List A) (n k : ℕ) → n ≤ k → passes p (take n xs) k ≡ false
passes_past p xs zero k l = refl
passes_past p [] (suc n) k l = refl
passes_past p (x ∷ xs) (suc n) zero l = absurd (omega (arith, l))
passes_past p (x ∷ xs) (suc n) (suc k) l = passes_past p xs n k (omega (arith, l))

-- the same test of hands and of lanes
passes_hands : (ins : List LaneInIs) (k : ℕ) → passes is_tuple (all_hands ins) k ≡ passes has_tuple ins k
passes_hands [] k = refl
passes_hands (a ∷ more) zero = refl
passes_hands (a ∷ more) (suc k) = passes_hands more k

module _ (tuples : ℕ) (ins : List LaneInIs) (is : IsMaskOf has_tuple tuples ins) where
  hand_is : (k : ℕ) (b : Bool) → has tuples k ≡ b → passes is_tuple (all_hands ins) k ≡ b
  hand_is k b e = passes_hands ins k ∙ (sym (is k) ∙ e)

  from_start : (start k : ℕ) → start ≤ k → has tuples k ≡ true → ((j : ℕ) → start ≤ j → j < k → has tuples j ≡ false) → position is_tuple (drop start (all_hands ins)) ≡ Some (k - start)
  from_start start k l e low =
      first_position is_tuple (drop start (all_hands ins)) (k - start)
      (passes_drop is_tuple (all_hands ins) start (k - start) ∙ hand_is (start + (k - start)) true (ap (has tuples) (let q : start + (k - start) ≡ k = omega (arith, l) in q) ∙ e))
      (λ j w. passes_drop is_tuple (all_hands ins) start j ∙ hand_is (start + j) false (low (start + j) (omega arith) (omega (arith, l, w))))

  none_from : (start : ℕ) → IsFirstFrom tuples start None → position is_tuple (drop start (all_hands ins)) ≡ None
  none_from start none = no_position is_tuple (drop start (all_hands ins)) (λ j. passes_drop is_tuple (all_hands ins) start j ∙ hand_is (start + j) false (none (start + j) (omega arith)))

  pub tuple_from : (start place : ℕ) → IsFirstFrom tuples start (Some place) → Some place ≡ next_tuple start (all_hands ins)
  tuple_from start place first =
      let e = from_start start place first.0 first.1 first.2 in
      let l = first.0 in
      rw e (ap Some (let q : place ≡ start + (place - start) = omega (arith, l) in q))

  pub tuple_before : (start : ℕ) (found : Option ℕ) → IsFirstFrom tuples start None → IsFirstFrom tuples 0 found → found ≡ next_tuple start (all_hands ins)
  tuple_before start None none first =
      rw (none_from start none, no_position is_tuple (take start (all_hands ins)) (λ j. go j)) refl
    where
      go : (j : ℕ) → passes is_tuple (take start (all_hands ins)) j ≡ false
      go j = pick (before j start)
        where
          before : (j start : ℕ) → (j < start) ⊎ (start ≤ j)
          before j start = cases_lt j start

          pick : (j < start) ⊎ (start ≤ j) → passes is_tuple (take start (all_hands ins)) j ≡ false
          pick (inl l) = passes_take is_tuple (all_hands ins) start j l ∙ hand_is j false (first j (omega arith))
          pick (inr l) = passes_past is_tuple (all_hands ins) start j l
  tuple_before start (Some place) none first =
      rw (
        none_from start none,
        first_position is_tuple (take start (all_hands ins)) place
            (passes_take is_tuple (all_hands ins) start place below ∙ hand_is place true first.1)
            (λ j l. passes_take is_tuple (all_hands ins) start j (omega (arith, l, below)) ∙ hand_is j false (first.2 j (omega arith) l)),
      ) refl
    where
      below : place < start
      below = pick (cases_lt place start)
        where
          pick : (place < start) ⊎ (start ≤ place) → place < start
          pick (inl l) = l
          pick (inr l) = absurd (let a = none place l in let b = first.1 in cc)

-- ---- a due that may not turn

no_issued : (newest r : ℕ) (ins : List LaneInIs) → newest < r → EachOne (IsFedBy newest) ins → list_any (is_issued r) (all_hands ins) ≡ false
no_issued newest r [] l e = refl
no_issued newest r (a ∷ more) l e = rw (go a.hand refl, no_issued newest r more l e.1) refl
  where
    go : (hand : Hand) → a.hand ≡ hand → is_issued r hand ≡ false
    go Empty q = refl
    go (Holds (Carry t)) q = let w = e.0 t q in grind (arith, nat_tests)
    go (Holds (Mark s c)) q = refl
    go (Holds Last) q = refl

pub head_waits : (due : Due) (newest : ℕ) (ins : List LaneInIs) (posted : Bool) → due.head ≡ true → posted ≡ false → newest < due.request → EachOne (IsFedBy newest) ins → turn (all_hands ins) (Some due) posted ≡ None
head_waits due newest ins posted head unposted l e = rw (head, unposted, no_issued newest due.request ins l e) refl

-- a hand that is empty or has a tuple
abbrev pub IsOpen : List LaneInIs → ℕ → Type 0
IsOpen ins k = (passes has_empty ins k ≡ true) ⊎ (passes has_tuple ins k ≡ true)

no_marker : (hand : Hand) (r c : ℕ) → hand ≡ Holds (Mark r c) → (is_empty_hand hand ≡ true) ⊎ (is_tuple hand ≡ true) → ⊥
no_marker Empty r c e o = absurd (cc)
no_marker (Holds (Carry t)) r c e o = absurd (cc)
no_marker (Holds (Mark s d)) r c e (inl o) = absurd (cc)
no_marker (Holds (Mark s d)) r c e (inr o) = absurd (cc)
no_marker (Holds Last) r c e o = absurd (cc)

no_last : (hand : Hand) → hand ≡ Holds Last → (is_empty_hand hand ≡ true) ⊎ (is_tuple hand ≡ true) → ⊥
no_last Empty e o = absurd (cc)
no_last (Holds (Carry t)) e o = absurd (cc)
no_last (Holds (Mark s d)) e o = absurd (cc)
no_last (Holds Last) e (inl o) = absurd (cc)
no_last (Holds Last) e (inr o) = absurd (cc)

no_open : (k : ℕ) → IsOpen [] k → ⊥
no_open k (inl o) = absurd (cc)
no_open k (inr o) = absurd (cc)

open_unmarked : (mask r c i : ℕ) (ins : List LaneInIs) (k : ℕ) → HoldMarker mask r c i ins → has mask (i + k) ≡ true → IsOpen ins k → ⊥
open_unmarked mask r c i [] k h b o = no_open k o
open_unmarked mask r c i (a ∷ more) zero h b o = no_marker a.hand r c (h.0 (ap (has mask) (let q : i ≡ i + 0 = omega arith in q) ∙ b)) o
open_unmarked mask r c i (a ∷ more) (suc k) h b o = open_unmarked mask r c (i + 1) more k h.1 (ap (has mask) (let q : i + 1 + k ≡ i + suc k = omega arith in q) ∙ b) o

open_unended : (ins : List LaneInIs) (k : ℕ) → EachOne (λ (a : LaneInIs). a.hand ≡ Holds Last) ins → IsOpen ins k → ⊥
open_unended [] k h o = no_open k o
open_unended (a ∷ more) zero h o = no_last a.hand h.0 o
open_unended (a ∷ more) (suc k) h o = open_unended more k h.1 o

-- ---- masks that have a place

-- a number that is not 0 has a bit
bit_within : (fuel n : ℕ) → n ≤ fuel → 0 < n → (k : ℕ) × (bit_at n k ≡ 1)
bit_within zero n l s = absurd (omega (arith, l, s))
bit_within (suc fuel) n l s = go (n % 2) refl (bit_within fuel (n / 2))
  where
    go : (d : ℕ) → n % 2 ≡ d → (n / 2 ≤ fuel → 0 < n / 2 → (k : ℕ) × (bit_at (n / 2) k ≡ 1)) → (k : ℕ) × (bit_at n k ≡ 1)
    go zero e h = let r = h (omega (arith, l, s)) (omega (arith, s, e)) in (suc r.0, bit_at-suc n r.0 ∙ r.1)
    go (suc d) e h = (0, bit_at_lowest n ∙ (let q : n % 2 ≡ 1 = omega (arith, e) in q))

some_bit : (n : ℕ) → (n ≡ 0 → ⊥) → (k : ℕ) × (bit_at n k ≡ 1)
some_bit n ne = bit_within n n (omega arith) (omega (arith, ne))

or_place : (m n k : ℕ) → bit_at (bit_or m n) k ≡ 1 → (has m k ≡ true) ⊎ (has n k ≡ true)
or_place m n k e = go (Has-or_cases m n k e)
  where
    go : (bit_at m k ≡ 1) ⊎ (bit_at n k ≡ 1) → (has m k ≡ true) ⊎ (has n k ≡ true)
    go (inl x) = inl (one_bit m k x)
    go (inr y) = inr (one_bit n k y)

open_at : (empty tuples newest : ℕ) (ins : List LaneInIs) (k : ℕ) → AreMasks empty tuples newest ins → (has empty k ≡ true) ⊎ (has tuples k ≡ true) → IsOpen ins k
open_at empty tuples newest ins k are (inl e) = inl (sym (are.empty_is k) ∙ e)
open_at empty tuples newest ins k are (inr e) = inr (sym (are.tuples_is k) ∙ e)

pub some_open : (empty tuples newest : ℕ) (ins : List LaneInIs) → AreMasks empty tuples newest ins → (bit_or tuples empty ≡ 0 → ⊥) → (k : ℕ) × IsOpen ins k
some_open empty tuples newest ins are ne =
    let bit = some_bit (bit_or tuples empty) ne in
    (bit.0, open_at empty tuples newest ins bit.0 are (turned (or_place tuples empty bit.0 bit.1)))
  where
    turned : {P Q : Type 0} → P ⊎ Q → Q ⊎ P
    turned (inl x) = inr x
    turned (inr y) = inl y

pub lanes_wait : (due : Due) (empty tuples newest : ℕ) (ins : List LaneInIs) (posted : Bool) → due.head ≡ false → AreMasks empty tuples newest ins → (bit_and due.lanes (bit_or empty tuples) ≡ 0 → ⊥) → turn (all_hands ins) (Some due) posted ≡ None
lanes_wait due empty tuples newest ins posted head are ne = rw head (go (is_aligned due (all_hands ins)) refl)
  where
    x : ℕ
    x = bit_and due.lanes (bit_or empty tuples)

    bit : (k : ℕ) × (bit_at x k ≡ 1)
    bit = some_bit x ne

    k : ℕ
    k = bit.0

    both : (bit_at due.lanes k ≡ 1) × (bit_at (bit_or empty tuples) k ≡ 1)
    both = Has-and_both due.lanes (bit_or empty tuples) k bit.1

    go : (b : Bool) → is_aligned due (all_hands ins) ≡ b → cond b (Some (Turn due.request)) None ≡ None
    go false e = refl
    go true e = absurd (open_unmarked due.lanes due.request due.cover 0 ins k (hold_marker due.lanes due.request due.cover 0 ins e) (ap (has due.lanes) (let q : 0 + k ≡ k = omega arith in q) ∙ one_bit due.lanes k both.0) (open_at empty tuples newest ins k are (or_place empty tuples k both.1)))

-- ---- the decision

unclosed : (ins : List LaneInIs) (k : ℕ) (due : Option Due) → IsOpen ins k → close (all_hands ins) due ≡ None
unclosed ins k (Some due) o = refl
unclosed ins k None o = go (list_all is_last (all_hands ins)) refl
  where
    go : (b : Bool) → list_all is_last (all_hands ins) ≡ b → cond b (Some Close) None ≡ None
    go false e = refl
    go true e = absurd (open_unended ins k (all_last ins e) o)

pub processes : (ins : List LaneInIs) (due : Option Due) (posted : Bool) (start place : ℕ) → turn (all_hands ins) due posted ≡ None → Some place ≡ next_tuple start (all_hands ins) → Process place ≡ decided (all_hands ins) due posted start
processes ins due posted start place none next = rw (none, ← next) refl

pub waits : (ins : List LaneInIs) (due : Option Due) (posted : Bool) (start : ℕ) → (k : ℕ) × IsOpen ins k → turn (all_hands ins) due posted ≡ None → None ≡ next_tuple start (all_hands ins) → Nothing ≡ decided (all_hands ins) due posted start
waits ins due posted start open_ none next = rw (none, ← next, unclosed ins open_.0 due open_.1) refl
