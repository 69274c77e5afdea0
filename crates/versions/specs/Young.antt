-- Judging in the middle of a list.
use Rattle.std.specs.Prelude.{◌≡◌, ℕ, ◌≤◌, List, ◌++◌, length, Some, slice_get}
use Rattle.jobs.specs.JobView.{JobView}
use Rattle.versions.specs.declared.book.Current.{Current}
use Rattle.versions.specs.declared.in_order.Bench.{Bench}
use Rattle.versions.specs.declared.in_order.Judged.{Judged}
use Rattle.versions.specs.declared.in_order.Refused.{Refused}
use Rattle.versions.specs.declared.request.Request.{Request}
use Rattle.versions.specs.Judged.{judged_from}

-- no version is above the bound
abbrev pub IsBelow : List Current → ℕ → Type 0
IsBelow book bound =
    (node : ℕ) (current : Current) → slice_get book node ≡ Some current → current.version ≤ bound

-- the book has one entry for each node, with no version above the bound
pub record IsYoung (job : JobView) (book : List Current) (bound : ℕ) : Type 0 where
  pub long : length book ≡ length job.nodes
  pub below : IsBelow book bound

abbrev pub joined : List Request → List Refused → Judged → Judged
joined accepted refused later =
    record { accepted = accepted ++ later.accepted; refused = refused ++ later.refused }

-- what the bench has judged, and then the requests that are left
abbrev pub judged_on : JobView → Bench → ℕ → List Request → Judged
judged_on job bench place rest =
    joined bench.accepted bench.refused
    (judged_from bench.splits job bench.book bench.last_after place rest)
