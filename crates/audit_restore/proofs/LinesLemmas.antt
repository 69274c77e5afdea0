-- Lines in order are those of what they tell.
use Rattle.std.proofs.Common.{◌≡◌, ◌≢◌, ◌∙◌, ◌<◌, ◌≤◌, ◌+◌, ◌*◌, ◌++◌, ℕ, ℤ, zero, suc, List, [], ◌∷◌, inl, inr, refl, sym, ap, ap₂, subst, arith, map}
use Rattle.std.proofs.lemmas.Bool.{cases_lt, eq-eqb, ne_eqb}
use Rattle.sink_journal.specs.declared.audit.Noted.{Noted}
use Rattle.sink_journal.specs.declared.journal.Feed.{Feed}
use Rattle.flow_model.specs.Duties.{numbers_from}
use Rattle.flow_model.proofs.ElementLemmas.{IsIn, Before}
use Rattle.audit_laws.specs.declared.audit.AuditEntry.{AuditEntry}
use Rattle.audit_laws.specs.declared.audit.Line.{Line}
use Rattle.audit_laws.specs.declared.audit.Line.TheVariants as line
use Rattle.audit_laws.specs.Faults.{Listed}
use Rattle.audit_laws.specs.Lines.{counts_in, feeds_in, group_of, journal_in, lines_from, lines_of, refusals_in, worker_lines}

-- ---- what later groups tell

no_refusals : (xs : List Line) → ((l : Line) → IsIn l xs → 0 < group_of l) → refusals_in xs ≡ []
no_refusals [] h = refl
no_refusals (line.Refused noted ∷ xs) h = let lt = h (line.Refused noted) (inl refl) in absurd (omega (arith, lt))
no_refusals (line.Feed step ∷ xs) h = no_refusals xs (λ l i. h l (inr i))
no_refusals (line.Step w e ∷ xs) h = no_refusals xs (λ l i. h l (inr i))
no_refusals (line.State w k c ∷ xs) h = no_refusals xs (λ l i. h l (inr i))

no_steps : (xs : List Line) → ((l : Line) → IsIn l xs → 1 < group_of l) → feeds_in xs ≡ []
no_steps [] h = refl
no_steps (line.Refused noted ∷ xs) h = no_steps xs (λ l i. h l (inr i))
no_steps (line.Feed step ∷ xs) h = let lt = h (line.Feed step) (inl refl) in absurd (omega (arith, lt))
no_steps (line.Step w e ∷ xs) h = no_steps xs (λ l i. h l (inr i))
no_steps (line.State w k c ∷ xs) h = no_steps xs (λ l i. h l (inr i))

no_journal : (xs : List Line) (v : ℕ) → ((l : Line) → IsIn l xs → 2 + 2 * v < group_of l) → journal_in xs v ≡ []
no_journal [] v h = refl
no_journal (line.Refused noted ∷ xs) v h = no_journal xs v (λ l i. h l (inr i))
no_journal (line.Feed step ∷ xs) v h = no_journal xs v (λ l i. h l (inr i))
no_journal (line.Step w e ∷ xs) v h =
    let lt = h (line.Step w e) (inl refl) in
    rw (ne_eqb w v (λ q. absurd (omega (arith, lt, q)))) (no_journal xs v (λ l i. h l (inr i)))
no_journal (line.State w k c ∷ xs) v h = no_journal xs v (λ l i. h l (inr i))

no_counts : (xs : List Line) (v : ℕ) → ((l : Line) → IsIn l xs → 3 + 2 * v < group_of l) → counts_in xs v ≡ []
no_counts [] v h = refl
no_counts (line.Refused noted ∷ xs) v h = no_counts xs v (λ l i. h l (inr i))
no_counts (line.Feed step ∷ xs) v h = no_counts xs v (λ l i. h l (inr i))
no_counts (line.Step w e ∷ xs) v h = no_counts xs v (λ l i. h l (inr i))
no_counts (line.State w k c ∷ xs) v h =
    let lt = h (line.State w k c) (inl refl) in
    rw (ne_eqb w v (λ q. absurd (omega (arith, lt, q)))) (no_counts xs v (λ l i. h l (inr i)))

-- ---- a line of a worker more

map_numbers : {A : Type 0} (f g : ℕ → A) (a n : ℕ) → ((v : ℕ) → a ≤ v → f v ≡ g v) → map f (numbers_from a n) ≡ map g (numbers_from a n)
map_numbers f g a zero same = refl
map_numbers {A} f g a (suc n) same = ap₂ (λ (x : A) (xs : List A). x ∷ xs) (same a (omega arith)) (map_numbers f g (a + 1) n (λ v le. same v (omega (arith, le))))

one_step : (f f' : ℕ → List AuditEntry) (g g' : ℕ → Listed) (w : ℕ) (e : AuditEntry) (a n : ℕ) → a ≤ w → w < a + n → ((v : ℕ) → v < w → f v ≡ []) → ((v : ℕ) → v < w → g v ≡ []) → ((v : ℕ) → v ≢ w → f' v ≡ f v)
    → f' w ≡ e ∷ f w → ((v : ℕ) → g' v ≡ g v)
    → lines_from a (map f' (numbers_from a n)) (map g' (numbers_from a n)) ≡ line.Step w e ∷ lines_from a (map f (numbers_from a n)) (map g (numbers_from a n))
one_step f f' g g' w e a zero le lt j c same here counts = absurd (omega (arith, le, lt))
one_step f f' g g' w e a (suc n) le lt j c same here counts = elim (cases_lt a w) [
  | inl less ↦
      rw (same a (λ q. absurd (omega (arith, less, q))), counts a, j a less, c a less)
      (one_step f f' g g' w e (a + 1) n (omega (arith, less)) (omega (arith, lt)) j c same here counts)
  | inr more ↦
      let at : a ≡ w = omega (arith, le, more) in
      let later : (v : ℕ) → a + 1 ≤ v → v ≢ w = λ v up q. absurd (omega (arith, up, q, at)) in
      let journal : f' a ≡ e ∷ f a = subst (λ k. f' k ≡ e ∷ f k) (sym at) here in
      ap₂ (λ (x : List AuditEntry) (y : Listed). worker_lines a x y ++ lines_from (a + 1) (map f' (numbers_from (a + 1) n)) (map g' (numbers_from (a + 1) n))) journal (counts a)
      ∙ (ap₂ (λ (x : List (List AuditEntry)) (y : List Listed). worker_lines a (e ∷ f a) (g a) ++ lines_from (a + 1) x y)
      (map_numbers f' f (a + 1) n (λ v up. same v (later v up))) (map_numbers g' g (a + 1) n (λ v up. counts v))
      ∙ ap (λ k. line.Step k e ∷ (worker_lines a (f a) (g a) ++ lines_from (a + 1) (map f (numbers_from (a + 1) n)) (map g (numbers_from (a + 1) n)))) at)
]

one_state : (f f' : ℕ → List AuditEntry) (g g' : ℕ → Listed) (w : ℕ) (key : List ℕ) (count : ℤ) (a n : ℕ) → a ≤ w → w < a + n → ((v : ℕ) → v ≤ w → f v ≡ []) → ((v : ℕ) → v < w → g v ≡ [])
    → ((v : ℕ) → v ≢ w → g' v ≡ g v) → g' w ≡ (key, count) ∷ g w → ((v : ℕ) → f' v ≡ f v)
    → lines_from a (map f' (numbers_from a n)) (map g' (numbers_from a n)) ≡ line.State w key count ∷ lines_from a (map f (numbers_from a n)) (map g (numbers_from a n))
one_state f f' g g' w key count a zero le lt j c same here journals = absurd (omega (arith, le, lt))
one_state f f' g g' w key count a (suc n) le lt j c same here journals = elim (cases_lt a w) [
  | inl less ↦
      rw (same a (λ q. absurd (omega (arith, less, q))), journals a, j a (omega (arith, less)), c a less)
      (one_state f f' g g' w key count (a + 1) n (omega (arith, less)) (omega (arith, lt)) j c same here journals)
  | inr more ↦
      let at : a ≡ w = omega (arith, le, more) in
      let later : (v : ℕ) → a + 1 ≤ v → v ≢ w = λ v up q. absurd (omega (arith, up, q, at)) in
      let counts : g' a ≡ (key, count) ∷ g a = subst (λ k. g' k ≡ (key, count) ∷ g k) (sym at) here in
      let none : f a ≡ [] = j a (omega (arith, at)) in
      ap₂ (λ (x : List AuditEntry) (y : Listed). worker_lines a x y ++ lines_from (a + 1) (map f' (numbers_from (a + 1) n)) (map g' (numbers_from (a + 1) n))) (journals a ∙ none) counts
      ∙ (ap₂ (λ (x : List (List AuditEntry)) (y : List Listed). worker_lines a [] ((key, count) ∷ g a) ++ lines_from (a + 1) x y)
      (map_numbers f' f (a + 1) n (λ v up. journals v)) (map_numbers g' g (a + 1) n (λ v up. same v (later v up)))
      ∙ (ap (λ k. line.State k key count ∷ (worker_lines a [] (g a) ++ lines_from (a + 1) (map f (numbers_from (a + 1) n)) (map g (numbers_from (a + 1) n)))) at
      ∙ ap (λ (x : List AuditEntry). line.State w key count ∷ (worker_lines a x (g a) ++ lines_from (a + 1) (map f (numbers_from (a + 1) n)) (map g (numbers_from (a + 1) n)))) (sym none)))
]

none_by : (f : ℕ → List AuditEntry) (g : ℕ → Listed) (a n : ℕ) → ((v : ℕ) → f v ≡ []) → ((v : ℕ) → g v ≡ []) → lines_from a (map f (numbers_from a n)) (map g (numbers_from a n)) ≡ []
none_by f g a zero j c = refl
none_by f g a (suc n) j c = rw (j a, c a) (none_by f g (a + 1) n j c)

-- ---- all lines

-- the worker of a line is one of so many
abbrev pub Within : ℕ → Line → Type 0
Within n (line.Refused noted) = Unit {0}
Within n (line.Feed step) = Unit {0}
Within n (line.Step w e) = w < n
Within n (line.State w k c) = w < n

abbrev as_told : ℕ → List Line → List Line
as_told n xs = lines_of (refusals_in xs) (feeds_in xs) (map (journal_in xs) (numbers_from 0 n)) (map (counts_in xs) (numbers_from 0 n))

pub are_told : (n : ℕ) (xs : List Line) → ((l : Line) → IsIn l xs → Within n l) → ((a b : Line) → Before a b xs → group_of a ≤ group_of b) → xs ≡ as_told n xs
are_told n [] within order = sym (none_by (journal_in []) (counts_in []) 0 n (λ v. refl) (λ v. refl))
are_told n (line.Refused noted ∷ xs) within order =
    ap (λ (l : List Line). line.Refused noted ∷ l) (are_told n xs (λ l i. within l (inr i)) (λ a b q. order a b (inr q)))
are_told n (line.Feed step ∷ xs) within order =
    let up : (l : Line) → IsIn l xs → 1 ≤ group_of l = λ l i. order (line.Feed step) l (inl (refl, i)) in
    let none : refusals_in xs ≡ [] = no_refusals xs (λ l i. let le = up l i in omega (arith, le)) in
    let rest = are_told n xs (λ l i. within l (inr i)) (λ a b q. order a b (inr q)) in
    ap (λ (l : List Line). line.Feed step ∷ l) rest
    ∙ (ap (λ (r : List Noted). line.Feed step ∷ lines_of r (feeds_in xs) (map (journal_in xs) (numbers_from 0 n)) (map (counts_in xs) (numbers_from 0 n))) none
    ∙ ap (λ (r : List Noted). lines_of r (step ∷ feeds_in xs) (map (journal_in xs) (numbers_from 0 n)) (map (counts_in xs) (numbers_from 0 n))) (sym none))
are_told n (line.Step w e ∷ xs) within order =
    let up : (l : Line) → IsIn l xs → 2 + 2 * w ≤ group_of l = λ l i. order (line.Step w e) l (inl (refl, i)) in
    let refused : refusals_in xs ≡ [] = no_refusals xs (λ l i. let le = up l i in omega (arith, le)) in
    let fed : feeds_in xs ≡ [] = no_steps xs (λ l i. let le = up l i in omega (arith, le)) in
    let rest = are_told n xs (λ l i. within l (inr i)) (λ a b q. order a b (inr q)) in
    let lt : w < n = within (line.Step w e) (inl refl) in
    ap (λ (l : List Line). line.Step w e ∷ l)
    (rest ∙ ap₂ (λ (r : List Noted) (s : List Feed). lines_of r s (map (journal_in xs) (numbers_from 0 n)) (map (counts_in xs) (numbers_from 0 n))) refused fed)
    ∙ (sym (one_step (journal_in xs) (journal_in (line.Step w e ∷ xs)) (counts_in xs) (counts_in (line.Step w e ∷ xs)) w e 0 n (omega arith) (omega (arith, lt))
    (λ v less. no_journal xs v (λ l i. let le = up l i in omega (arith, le, less))) (λ v less. no_counts xs v (λ l i. let le = up l i in omega (arith, le, less)))
    (λ v ne. rw (ne_eqb w v (λ q. ne (sym q))) refl) (rw (eq-eqb w w refl) refl) (λ v. refl))
    ∙ ap₂ (λ (r : List Noted) (s : List Feed). lines_of r s (map (journal_in (line.Step w e ∷ xs)) (numbers_from 0 n)) (map (counts_in (line.Step w e ∷ xs)) (numbers_from 0 n))) (sym refused) (sym fed))
are_told n (line.State w k c ∷ xs) within order =
    let up : (l : Line) → IsIn l xs → 3 + 2 * w ≤ group_of l = λ l i. order (line.State w k c) l (inl (refl, i)) in
    let refused : refusals_in xs ≡ [] = no_refusals xs (λ l i. let le = up l i in omega (arith, le)) in
    let fed : feeds_in xs ≡ [] = no_steps xs (λ l i. let le = up l i in omega (arith, le)) in
    let rest = are_told n xs (λ l i. within l (inr i)) (λ a b q. order a b (inr q)) in
    let lt : w < n = within (line.State w k c) (inl refl) in
    ap (λ (l : List Line). line.State w k c ∷ l)
    (rest ∙ ap₂ (λ (r : List Noted) (s : List Feed). lines_of r s (map (journal_in xs) (numbers_from 0 n)) (map (counts_in xs) (numbers_from 0 n))) refused fed)
    ∙ (sym (one_state (journal_in xs) (journal_in (line.State w k c ∷ xs)) (counts_in xs) (counts_in (line.State w k c ∷ xs)) w k c 0 n (omega arith) (omega (arith, lt))
    (λ v less. no_journal xs v (λ l i. let le = up l i in omega (arith, le, less))) (λ v less. no_counts xs v (λ l i. let le = up l i in omega (arith, le, less)))
    (λ v ne. rw (ne_eqb w v (λ q. ne (sym q))) refl) (rw (eq-eqb w w refl) refl) (λ v. refl))
    ∙ ap₂ (λ (r : List Noted) (s : List Feed). lines_of r s (map (journal_in (line.State w k c ∷ xs)) (numbers_from 0 n)) (map (counts_in (line.State w k c ∷ xs)) (numbers_from 0 n))) (sym refused) (sym fed))
