-- Which requests the feeder issues, by a test of the rows that they wait for.
use Rattle.std.proofs.Common.{◌≡◌, ◌≤◌, ◌+◌, ◌==◌, ℕ, zero, suc, List, [], ◌∷◌, inl, inr, Bool}
use Rattle.std.proofs.Common.{false, cond, drop, min, Some, refl, sym, ap, ◌∙◌, arith}
use Rattle.std.specs.Prelude.{nat_le, slice_get}
use Rattle.std.proofs.lemmas.Bool.{cases_lt, eq-eqb, le-leb, lt-leb, ne_eqb}
use Rattle.sink_journal.specs.declared.journal.Feed.{Feed}
use Rattle.sink_journal.specs.declared.journal.Feed.TheVariants as feed
use Rattle.flow_model.specs.Feeding.{issued_where}

pub issued-none : (test : ℕ → Bool) (rows r : ℕ) (waits : List ℕ)
    → ((i a : ℕ) → slice_get waits i ≡ Some a → test (min a rows) ≡ false)
    → issued_where test rows r waits ≡ []
issued-none test rows r [] h = refl
issued-none test rows r (a ∷ more) h =
    rw (h 0 a refl) (issued-none test rows (r + 1) more (λ i b e. h (suc i) b e))

-- two tests that agree
pub issued-agree : (t u : ℕ → Bool) (rows r : ℕ) (waits : List ℕ)
    → ((i a : ℕ) → slice_get waits i ≡ Some a → t (min a rows) ≡ u (min a rows))
    → issued_where t rows r waits ≡ issued_where u rows r waits
issued-agree t u rows r [] h = refl
issued-agree t u rows r (a ∷ more) h =
    ap (λ (b : Bool). cond b (feed.Issued r ∷ issued_where t rows (r + 1) more)
    (issued_where t rows (r + 1) more)) (h 0 a refl)
    ∙ ap (λ (l : List Feed). cond (u (min a rows)) (feed.Issued r ∷ l) l)
    (issued-agree t u rows (r + 1) more (λ i b e. h (suc i) b e))

pub get-drop : (n i a : ℕ) (waits : List ℕ) → slice_get (drop n waits) i ≡ Some a
    → slice_get waits (n + i) ≡ Some a
get-drop zero i a waits e =
    let z : i ≡ 0 + i = omega arith in
    ap (slice_get waits) (sym z) ∙ e
get-drop (suc n) i a [] e = absurd (cc)
get-drop (suc n) i a (x ∷ xs) e =
    let z : suc n + i ≡ suc (n + i) = omega arith in
    ap (slice_get (x ∷ xs)) z ∙ get-drop n i a xs e

-- from a row on, to wait for this row is to wait for no later one
pub eqb_le : (a row : ℕ) → row ≤ a → (a == row) ≡ nat_le a row
eqb_le a row h = elim (cases_lt row a) [
  | inl lt ↦ ne_eqb a row (λ e. absurd (omega (arith, lt, e))) ∙ sym (lt-leb a row lt)
  | inr ge ↦ eq-eqb a row (omega (arith, h, ge)) ∙ sym (le-leb a row ge)
]
