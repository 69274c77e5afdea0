-- The requests that the feeder issues between two rows.
use Rattle.std.specs.Prelude.{◌≡◌, ◌<◌, ◌≤◌, ◌+◌, ℕ, List, Some, drop, min, nat_le, slice_get}
use Rattle.sink_journal.specs.declared.journal.Feed.{Feed}
use Rattle.flow_model.specs.Feeding.{issued_where}

-- After the first `issued` requests, those up to the number `now` wait for this row of `rows`, or
-- for an earlier one. The later ones wait for a later row. The list has the row that each request
-- waits for.
pub record AreIssuedUpTo (afters : List ℕ) (rows row issued now : ℕ) : Type 0 where
  pub more : issued ≤ now
  pub past :
      (i after : ℕ) → slice_get afters i ≡ Some after → issued ≤ i → i < now → min after rows ≤ row
  pub left :
      (i after : ℕ) → slice_get afters i ≡ Some after → now ≤ i → row < min after rows

-- The steps that issue the requests that wait for a row up to this one, after the first `issued`
-- requests.
abbrev pub issues : List ℕ → ℕ → ℕ → ℕ → List Feed
issues afters rows row issued =
    issued_where (λ after. nat_le after row) rows (issued + 1) (drop issued afters)
