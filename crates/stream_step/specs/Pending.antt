-- Accepted requests that wait for a later part of a stream.
use Rattle.std.specs.Prelude.{◌≡◌, ◌++◌, ℕ, Bool, IsTrue, List, [], ◌∷◌, None, Option, Some}
use Rattle.std.specs.Prelude.{false, filter, true, if◌then◌else◌, max, min, nat_le, not}
use Rattle.flow_dag.specs.Masks.{Has}
use Rattle.jobs.specs.JobView.{JobView}
use Rattle.versions.specs.Judged.{AreAccepted}
use Rattle.versions.specs.Waiting.{changes_of}
use Rattle.versions.specs.declared.request.Request.{Request}
use Rattle.flow_model.specs.Planned.{is_made_split}

-- the request waits for this row, or for a later one if it asks for that
abbrev pub lifted : ℕ → Request → Request
lifted fed request = record request { after = max request.after fed }

-- the request asks for a row up to this one
abbrev pub is_due_by : ℕ → Request → Bool
is_due_by last request = nat_le request.after last

-- the requests that ask for a row up to this one
abbrev pub due_by : ℕ → List Request → List Request
due_by last requests = filter (is_due_by last) requests

-- the requests that ask for a later row
abbrev pub left_by : ℕ → List Request → List Request
left_by last requests = filter (λ request. not (is_due_by last request)) requests

-- how many requests were issued when a stream became exact, if it is to be so from there on
abbrev pub exact_from : Bool → ℕ → Option ℕ
exact_from true issued = Some issued
exact_from false issued = None

-- Of a stream that is exact, a part with rows issues no request: each waits for a part without one.
abbrev pub is_held : Option ℕ → ℕ → ℕ → Bool
is_held None fed last = false
is_held (Some base) fed last = not (nat_le last fed)

-- the requests that a part issues whose rows go from `fed` to `last`
abbrev pub issued_by : Option ℕ → ℕ → ℕ → List Request → List Request
issued_by exact fed last requests =
    if is_held exact fed last then [] else due_by last requests

-- those that it leaves
abbrev pub kept_by : Option ℕ → ℕ → ℕ → List Request → List Request
kept_by exact fed last requests =
    if is_held exact fed last then requests else left_by last requests

-- the first row after `fed` that one of the requests asks for, or `last` if that comes before
abbrev pub first_wait : ℕ → ℕ → List Request → ℕ
first_wait fed last [] = last
first_wait fed last (request ∷ more) =
    first_wait fed (if is_due_by fed request then last else min last request.after) more

-- the requests make splits only of nodes that the mask holds
abbrev pub SplitWithin : ℕ → List Request → Type 0
SplitWithin splits requests = (node : ℕ) → IsTrue (is_made_split requests node)
    → Has splits node

-- All accepted requests, as they were asked: those that a stream has taken into parts, where they
-- may wait for other rows, and then the pending ones.
pub record AreAsked (job : JobView) (taken pending all : List Request) : Type 0 where
  pub earlier : List Request
  pub all_are : all ≡ earlier ++ pending
  pub same : changes_of earlier ≡ changes_of taken
  pub accepted : AreAccepted job all
