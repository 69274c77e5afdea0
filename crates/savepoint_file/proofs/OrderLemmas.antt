-- Counts in their order: each is new to its worker, and changes its counts alone.
use Rattle.std.proofs.Common.{◌≡◌, ◌∙◌, ◌⊎◌, ◌<◌, ◌+◌, ◌++◌, ◌==◌, ◌&&◌, ◌||◌, Less, Equal, Greater, Ordering, ℕ, ℤ, zero, suc, Bool, true, false, List, [], ◌∷◌, Option, Some, None, Result, Ok, Err, inl, inr, refl, sym, subst, ap, arith, filter, get_or, length, map, nat_lt, slice_get, slice_set, take, if◌then◌else◌}
use Rattle.std.specs.Cmp.Lexicographic.{nat_list_cmp_total, slice_cmp}
use Rattle.std.specs.FinMap.{find, from_entries, from_entries_push, insert, nat_cmp-IsAntisymmetric, slice_cmp-IsAntisymmetric}
use Rattle.std.specs.Ordering.{is_eq, is_lt, nat_cmp, ordering_reverse}
use Rattle.std.proofs.lemmas.Bool.{and_parts, eqb-true, eq-eqb, ltb-true, ne_eqb}
use Rattle.std.proofs.lemmas.List.{append-nil, map-append}
use Rattle.std.proofs.lemmas.List.Elements.{filter-append}
use Rattle.keyed_state.specs.Counts.{Counts}
use Rattle.flow_model.specs.SetupView.{Worker}
use Rattle.savepoint.specs.SaveReading.{Placed, counts_at, one_more, stands_behind}
use Rattle.savepoint.specs.declared.fault.SaveFault.{SaveFault}
use Rattle.savepoint.specs.declared.fault.SaveFault.TheVariants as fault
use Rattle.savepoint_file.specs.Steps.{placed_in, there}

-- ---- which comes first

abbrev Behind : Placed → Placed → Type 0
Behind b p = (b.worker < p.worker) ⊎ ((b.worker ≡ p.worker) × (slice_cmp nat_cmp b.key p.key ≡ Less))

less_is : (r : Ordering) → is_lt r ≡ true → r ≡ Less
less_is Less e = refl
less_is Equal e = absurd (cc e)
less_is Greater e = absurd (cc e)

behind : (b p : Placed) → stands_behind (Some b) p ≡ true → Behind b p
behind b p h = go (nat_lt b.worker p.worker) refl h
  where
    go : (x : Bool) → nat_lt b.worker p.worker ≡ x → (x || ((b.worker == p.worker) && is_lt (slice_cmp nat_cmp b.key p.key))) ≡ true → Behind b p
    go true e h = inl (ltb-true b.worker p.worker e)
    go false e h =
        let parts = and_parts (b.worker == p.worker) (is_lt (slice_cmp nat_cmp b.key p.key)) h in
        inr (eqb-true b.worker p.worker parts.0, less_is (slice_cmp nat_cmp b.key p.key) parts.1)

behind-trans : (a b p : Placed) → Behind a b → Behind b p → Behind a p
behind-trans a b p (inl x) (inl y) = inl (omega (arith, x, y))
behind-trans a b p (inl x) (inr y) = inl (let e = y.0 in omega (arith, x, e))
behind-trans a b p (inr x) (inl y) = inl (let e = x.0 in omega (arith, y, e))
behind-trans a b p (inr x) (inr y) = inr (x.0 ∙ y.0, nat_list_cmp_total.trans a.key b.key p.key x.1 y.1)

-- ---- what stands before a count

abbrev pub AllBefore : Placed → List Placed → Type 0
AllBefore p [] = Unit {0}
AllBefore p (q ∷ qs) = Behind q p × AllBefore p qs

ok_parts : (number : ℕ) (q : Placed) (rest : Result (List Placed) SaveFault) (b : Bool) (xs : List Placed) → (if b then one_more q rest else Err (fault.State number)) ≡ Ok xs → (b ≡ true) × ((ys : List Placed) × (rest ≡ Ok ys))
ok_parts number q rest false xs h = absurd (cc h)
ok_parts number q (Err f) true xs h = absurd (cc h)
ok_parts number q (Ok ys) true xs h = (refl, (ys, refl))

all_behind : (number : ℕ) (before : Placed) (os : List (Option Placed)) (xs : List Placed) → placed_in number (Some before) os ≡ Ok xs
    → (i : ℕ) (p : Placed) → i < length os → get_or os i (Some p) ≡ Some p → Behind before p
all_behind number before [] xs h i p lt at = absurd (omega (arith, lt))
all_behind number before (None ∷ os) xs h i p lt at = absurd (cc h)
all_behind number before (Some q ∷ os) xs h zero p lt at =
    let parts = ok_parts number q (placed_in (number + 1) (Some q) os) (stands_behind (Some before) q) xs h in
    let same : q ≡ p = cc at in
    subst (Behind before) same (behind before q parts.0)
all_behind number before (Some q ∷ os) xs h (suc i) p lt at =
    let parts = ok_parts number q (placed_in (number + 1) (Some q) os) (stands_behind (Some before) q) xs h in
    behind-trans before q p (behind before q parts.0) (all_behind (number + 1) q os parts.1.0 parts.1.1 i p (omega (arith, lt)) at)

pub all-before : (number : ℕ) (before : Option Placed) (os : List (Option Placed)) (xs : List Placed) → placed_in number before os ≡ Ok xs
    → (i : ℕ) (p : Placed) → i < length os → get_or os i (Some p) ≡ Some p → AllBefore p (there (take i os))
all-before number before [] xs h i p lt at = absurd (omega (arith, lt))
all-before number before (None ∷ os) xs h i p lt at = absurd (cc h)
all-before number before (Some q ∷ os) xs h zero p lt at = tt
all-before number before (Some q ∷ os) xs h (suc i) p lt at =
    let parts = ok_parts number q (placed_in (number + 1) (Some q) os) (stands_behind before q) xs h in (
      all_behind (number + 1) q os parts.1.0 parts.1.1 i p (omega (arith, lt)) at,
      all-before (number + 1) (Some q) os parts.1.0 parts.1.1 i p (omega (arith, lt)) at,
    )

-- ---- its key is new

abbrev is_of : ℕ → Placed → Bool
is_of w p = p.worker == w

abbrev pair : Placed → List ℕ × ℤ
pair p = (p.key, p.count)

other_key : (a b : List ℕ) → slice_cmp nat_cmp a b ≡ Less → is_eq (slice_cmp nat_cmp b a) ≡ false
other_key a b less = ap is_eq (nat_list_cmp_total.antisymm b a ∙ ap ordering_reverse less)

none_found : (p : Placed) (w : ℕ) (qs : List Placed) → p.worker ≡ w → AllBefore p qs → find (slice_cmp nat_cmp) p.key (map pair (filter (is_of w) qs)) ≡ None
none_found p w [] e h = refl
none_found p w (q ∷ qs) e h = go (q.worker == w) refl (none_found p w qs e h.1)
  where
    key_other : q.worker ≡ w → Behind q p → is_eq (slice_cmp nat_cmp p.key q.key) ≡ false
    key_other same (inl x) = absurd (omega (arith, x, same, e))
    key_other same (inr x) = other_key q.key p.key x.1

    go : (b : Bool) → (q.worker == w) ≡ b → find (slice_cmp nat_cmp) p.key (map pair (filter (is_of w) qs)) ≡ None → find (slice_cmp nat_cmp) p.key (map pair (filter (is_of w) (q ∷ qs))) ≡ None
    go true is none = rw (is, key_other (eqb-true q.worker w is) h.0) none
    go false is none = rw is none

-- ---- what it changes

others_stay : (done : List Placed) (p : Placed) (who : Worker) → (p.worker == who.number) ≡ false → counts_at (done ++ p ∷ []) who ≡ counts_at done who
others_stay done p who other =
    let none : filter (is_of who.number) (p ∷ []) ≡ [] = rw other refl in
    ap (λ (l : List Placed). from_entries (map pair l)) (filter-append (is_of who.number) done (p ∷ []) ∙ (ap (λ (l : List Placed). filter (is_of who.number) done ++ l) none ∙ append-nil (filter (is_of who.number) done)))

own_grow : (done : List Placed) (p : Placed) (who : Worker) → p.worker ≡ who.number → AllBefore p done → counts_at (done ++ p ∷ []) who ≡ insert (counts_at done who) p.key p.count
own_grow done p who e h =
    let one : filter (is_of who.number) (p ∷ []) ≡ p ∷ [] = rw (eq-eqb p.worker who.number e) refl in
    let own : List Placed = filter (is_of who.number) done in
    ap (λ (l : List Placed). from_entries (map pair l)) (filter-append (is_of who.number) done (p ∷ []) ∙ ap (λ (l : List Placed). own ++ l) one)
    ∙ (ap from_entries (map-append pair own (p ∷ []))
    ∙ from_entries_push nat_list_cmp_total (slice_cmp-IsAntisymmetric nat_cmp-IsAntisymmetric) (map pair own) p.key p.count (none_found p who.number done e h))

abbrev AreNumbered : ℕ → List Worker → Type 0
AreNumbered k workers_in = (i : ℕ) (who : Worker) → slice_get workers_in i ≡ Some who → who.number ≡ k + i

numbered_tail : (k : ℕ) (who : Worker) (workers_in : List Worker) → AreNumbered k (who ∷ workers_in) → AreNumbered (k + 1) workers_in
numbered_tail k who workers_in h i q at = let e : q.number ≡ k + suc i = h (suc i) q at in omega (arith, e)

later_stay : (done : List Placed) (p : Placed) (k : ℕ) (workers_in : List Worker) → AreNumbered k workers_in → p.worker < k → map (counts_at done) workers_in ≡ map (counts_at (done ++ p ∷ [])) workers_in
later_stay done p k [] h lt = refl
later_stay done p k (who ∷ workers_in) h lt =
    let e : who.number ≡ k + 0 = h 0 who refl in
    let other : (p.worker == who.number) ≡ false = ne_eqb p.worker who.number (omega (arith, lt, e)) in
    ap (λ (c : Counts). c ∷ map (counts_at done) workers_in) (sym (others_stay done p who other))
    ∙ ap (λ (l : List Counts). counts_at (done ++ p ∷ []) who ∷ l) (later_stay done p (k + 1) workers_in (numbered_tail k who workers_in h) (omega (arith, lt)))

pub one-grows : (done : List Placed) (p : Placed) (k w : ℕ) (workers_in : List Worker) (d : Counts) → AllBefore p done → AreNumbered k workers_in → p.worker ≡ k + w → w < length workers_in
    → slice_set (map (counts_at done) workers_in) w (insert (get_or (map (counts_at done) workers_in) w d) p.key p.count) ≡ map (counts_at (done ++ p ∷ [])) workers_in
one-grows done p k w [] d h n is lt = absurd (omega (arith, lt))
one-grows done p k zero (who ∷ workers_in) d h n is lt =
    let e : who.number ≡ k + 0 = n 0 who refl in
    let same : p.worker ≡ who.number = omega (arith, is, e) in
    ap (λ (c : Counts). c ∷ map (counts_at done) workers_in) (sym (own_grow done p who same h))
    ∙ ap (λ (l : List Counts). counts_at (done ++ p ∷ []) who ∷ l) (later_stay done p (k + 1) workers_in (numbered_tail k who workers_in n) (omega (arith, is)))
one-grows done p k (suc w) (who ∷ workers_in) d h n is lt =
    let e : who.number ≡ k + 0 = n 0 who refl in
    let other : (p.worker == who.number) ≡ false = ne_eqb p.worker who.number (omega (arith, is, e)) in
    ap (λ (c : Counts). c ∷ slice_set (map (counts_at done) workers_in) w (insert (get_or (map (counts_at done) workers_in) w d) p.key p.count)) (sym (others_stay done p who other))
    ∙ ap (λ (l : List Counts). counts_at (done ++ p ∷ []) who ∷ l) (one-grows done p (k + 1) w workers_in d h (numbered_tail k who workers_in n) (omega (arith, is)) (omega (arith, lt)))
