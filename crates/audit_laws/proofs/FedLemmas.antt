-- A feed names rows and requests that there are.
use Rattle.std.proofs.Common.{◌<◌, ◌≤◌, ◌+◌, ◌-◌, ◌==◌, ℕ, zero, suc, List, [], ◌∷◌, inl, inr, sym, subst, arith, true, false, Bool, cond, length}
use Rattle.std.specs.Prelude.{drop, min, nat_le}
use Rattle.std.proofs.lemmas.List.{length-drop}
use Rattle.sink_journal.specs.declared.journal.Feed.{Feed}
use Rattle.sink_journal.specs.declared.journal.Feed.TheVariants as feed
use Rattle.flow_model.specs.Feeding.{feed_after, feed_from, issued_after, issued_at_first, issued_where}
use Rattle.flow_model.proofs.ElementLemmas.{IsIn, in_cases}

-- the row, or the request, is one of so many
abbrev pub IsAmong : ℕ → ℕ → Feed → Type 0
IsAmong rows requests (feed.Fed row) = row ≤ rows
IsAmong rows requests (feed.Issued request) = request ≤ requests
IsAmong rows requests feed.Stopped = Unit {0}

-- the requests from this one on that wait are among so many
abbrev FewWait : ℕ → ℕ → List ℕ → Type 0
FewWait r requests waits = (k : ℕ) → k < length waits → r + k ≤ requests

fewer_wait : (r requests wait : ℕ) (waits : List ℕ) → FewWait r requests (wait ∷ waits) → FewWait (r + 1) requests waits
fewer_wait r requests wait waits few k lt = let le = few (suc k) (omega (arith, lt)) in omega (arith, le)

issued_among : (test : ℕ → Bool) (rows total r requests : ℕ) (waits : List ℕ) (x : Feed) → FewWait r requests waits
    → IsIn x (issued_where test total r waits) → IsAmong rows requests x
issued_among test rows total r requests [] x few i = absurd i
issued_among test rows total r requests (wait ∷ waits) x few i =
    go (test (min wait total)) i (λ j. issued_among test rows total (r + 1) requests waits x (fewer_wait r requests wait waits few) j)
  where
    go : (b : Bool) → IsIn x (cond b (feed.Issued r ∷ issued_where test total (r + 1) waits) (issued_where test total (r + 1) waits))
        → (IsIn x (issued_where test total (r + 1) waits) → IsAmong rows requests x) → IsAmong rows requests x
    go true (inl e) later = subst (IsAmong rows requests) (sym e) (let le = few 0 (omega arith) in omega (arith, le))
    go true (inr j) later = later j
    go false j later = later j

after_among : (waits : List ℕ) (r row rows total left requests : ℕ) (x : Feed) → left ≤ rows - row → FewWait r requests waits
    → IsIn x (feed_after waits r row total left) → IsAmong rows requests x
after_among waits r row rows total zero requests x le few (inl e) = subst (IsAmong rows requests) (sym e) tt
after_among waits r row rows total zero requests x le few (inr n) = absurd n
after_among waits r row rows total (suc left) requests x le few (inl e) = subst (IsAmong rows requests) (sym e) (omega (arith, le))
after_among waits r row rows total (suc left) requests x le few (inr i) =
    elim (in_cases x (issued_after (row + 1) total r waits) (feed_after waits r (row + 1) total left) i) [
      | inl a ↦ issued_among (λ after. after == row + 1) rows total r requests waits x few a
      | inr b ↦ after_among waits r (row + 1) rows total left requests x (omega (arith, le)) few b
    ]

-- the feed of so many rows feeds only these, and issues only the requests that wait
pub feed_among : (row issued : ℕ) (waits : List ℕ) (rows : ℕ) (x : Feed) → IsIn x (feed_from row issued waits rows)
    → IsAmong rows (length waits) x
feed_among row issued waits rows x i =
    let left = drop issued waits in
    elim (in_cases x (issued_at_first row rows (issued + 1) left) (feed_after left (issued + 1) row rows (rows - row)) i) [
      | inl a ↦ issued_among (λ after. nat_le after row) rows rows (issued + 1) (length waits) left x few a
      | inr b ↦ after_among left (issued + 1) row rows rows (rows - row) (length waits) x (omega arith) few b
    ]
  where
    few : FewWait (issued + 1) (length waits) (drop issued waits)
    few k lt = omega (arith, lt, length-drop issued waits)
