-- What the loads of a live feeder show.
use Rattle.std.proofs.Common.{◌≡◌, ◌⊎◌, ◌∙◌, ◌<◌, ◌≤◌, ℕ, suc, List, [], ◌∷◌, ◌++◌, inl, inr, refl, sym, subst, ap, arith}
use Rattle.std.specs.Prelude.{All}
use Rattle.sink_journal.specs.declared.journal.Feed.{Feed}
use Rattle.sink_journal.specs.declared.journal.Feed.TheVariants.{Fed, Issued}
use Rattle.flow_model.proofs.ElementLemmas.{Before, IsIn, before_cases, contains_of_in, in_of_contains}
use Rattle.coordinator.specs.Boxes.{LastAtLeast, LoadedBelow}
use Rattle.coordinator.specs.Live.{AreHeard, Hears}
use Rattle.coordinator.specs.Turning.{AtMostOneMore}

all_snoc : (xs : List ℕ) (x n : ℕ) → All (λ y. y ≤ n) (xs ++ x ∷ []) → x ≤ n
all_snoc [] x n all = all 0 0 (omega arith)
all_snoc (y ∷ xs) x n all = all_snoc xs x n (λ i d within. all (suc i) d (omega (arith, within)))

last_of : ℕ → List ℕ → ℕ
last_of d [] = d
last_of d (x ∷ xs) = last_of x xs

last_of-snoc : (d : ℕ) (xs : List ℕ) (x : ℕ) → last_of d (xs ++ x ∷ []) ≡ x
unfolding last_of
last_of-snoc d [] x = refl
last_of-snoc d (y ∷ xs) x = last_of-snoc y xs x

last_same : (xs ys : List ℕ) (x y : ℕ) → xs ++ x ∷ [] ≡ ys ++ y ∷ [] → x ≡ y
last_same xs ys x y e = sym (last_of-snoc 0 xs x) ∙ (ap (last_of 0) e ∙ last_of-snoc 0 ys y)

-- what earlier loads show, later loads show
pub last_kept : (requests released : ℕ) (lo ln : List ℕ) (r : ℕ) → Hears requests released lo ln → LastAtLeast r lo → LastAtLeast r ln
last_kept requests released lo ln r (inl h) last = subst (LastAtLeast r) (sym h.0) last
last_kept requests released lo ln r (inr h) (earlier, load, e, le) =
    let more = all_snoc earlier load released (subst (All (λ load. load ≤ released)) e h.1) in
    (lo, released, h.0, omega (arith, le, more))

-- a request is released as far as the loads show it
pub shown_released : (requests released : ℕ) (lo ln : List ℕ) (r : ℕ) → Hears requests released lo ln → 0 < r → r ≤ released → LastAtLeast r ln
shown_released requests released lo ln r (inl h) some le = subst (LastAtLeast r) (sym h.0) (h.2 r some le)
shown_released requests released lo ln r (inr h) some le = (lo, released, h.0, le)

-- a request that isn't released was loaded as such in this turn
pub loaded_unreleased : (requests released k : ℕ) (lo ln : List ℕ) → Hears requests released lo ln → k < requests → released ≤ k → LoadedBelow (suc k) lo ln
loaded_unreleased requests released k lo ln (inl h) lt le = let more = h.1 in absurd (omega (arith, lt, le, more))
loaded_unreleased requests released k lo ln (inr h) lt le = (released, h.0, omega (arith, le))

pub not_shown : (requests released k : ℕ) (lo ln : List ℕ) → Hears requests released lo ln → k < requests → released ≤ k → LastAtLeast (suc k) ln → ⊥
not_shown requests released k lo ln (inl h) lt le last = let more = h.1 in absurd (omega (arith, lt, le, more))
not_shown requests released k lo ln (inr h) lt le (earlier, load, e, more) =
    let same : released ≡ load = last_same lo earlier released load (sym h.0 ∙ e) in absurd (omega (arith, le, more, same))

pub loads_once : (requests released : ℕ) (lo ln : List ℕ) → Hears requests released lo ln → AtMostOneMore lo ln
loads_once requests released lo ln (inl h) = inl h.0
loads_once requests released lo ln (inr h) = inr (released, h.0)

-- ---- what stands before a row of a feed

split_before : {A : Type 0} (x y : A) (before after : List A) → IsIn y after → Before x y (before ++ x ∷ after)
split_before x y [] after i = inl (refl, i)
split_before x y (b ∷ before) after i = inr (split_before x y before after i)

before_split : {A : Type 0} (x y : A) (zs : List A) → Before x y zs → (before : List A) × (after : List A) × (zs ≡ before ++ x ∷ after) × IsIn y after
before_split x y [] h = absurd h
before_split x y (z ∷ zs) (inl h) = ([], zs, ap (λ w. w ∷ zs) (sym h.0), h.1)
before_split x y (z ∷ zs) (inr h) =
    let s = before_split x y zs h in (z ∷ s.0, s.1, ap (λ l. z ∷ l) s.2, s.3)

pub heard_more : (lo ln : List ℕ) (feeds : List Feed) (e : Feed) → AreHeard lo feeds → ((r : ℕ) → LastAtLeast r lo → LastAtLeast r ln) → ((n : ℕ) → Fed n ≡ e → (r : ℕ) → IsIn (Issued r) feeds → LastAtLeast r ln)
    → AreHeard ln (feeds ++ e ∷ [])
heard_more lo ln feeds e heard kept here before after r n same c =
    go (before_cases (Issued r) (Fed n) feeds (e ∷ []) (subst (Before (Issued r) (Fed n)) (sym same) (split_before (Issued r) (Fed n) before after (in_of_contains (Fed n) after c))))
  where
    go : Before (Issued r) (Fed n) feeds ⊎ (Before (Issued r) (Fed n) (e ∷ []) ⊎ (IsIn (Issued r) feeds × IsIn (Fed n) (e ∷ []))) → LastAtLeast r ln
    go (inl b) = let s = before_split (Issued r) (Fed n) feeds b in kept r (heard s.0 s.1 r n s.2 (contains_of_in (Fed n) s.1 s.3))
    go (inr (inl (inl p))) = absurd p.1
    go (inr (inl (inr p))) = absurd p
    go (inr (inr (i, inl is))) = here n is r i
    go (inr (inr (i, inr p))) = absurd p

pub heard_same : (lo ln : List ℕ) (old new : List Feed) → AreHeard lo old → ((r : ℕ) → LastAtLeast r lo → LastAtLeast r ln) → new ≡ old → AreHeard ln new
heard_same lo ln old new heard kept same before after r n e c = kept r (heard before after r n (sym same ∙ e) c)
