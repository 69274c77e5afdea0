-- Where a request parts the rows of a run.
use Rattle.std.specs.Prelude.{◌≡◌, ◌<◌, ◌≤◌, ℕ, IfSome, false, length, min}
use Rattle.flow_model.specs.Requests.{request_at}
use Rattle.flow_model.specs.Run.{Ran}
use Rattle.stream_law.specs.Stream.{SoFar}
use Rattle.flow_model.specs.Whole.{any_before, changed_workers, is_new, journals_at}

-- The row is the request's border: the nodes that the request changes meet no row up to it after
-- their turns, and no later row before them.
pub record IsBorder (ran : Ran) (request border : ℕ) : Type 0 where
  pub up_to : (row : ℕ) → row ≤ border → is_new ran request row ≡ false
  pub later :
      (row : ℕ) → border < row
      → any_before request row (journals_at ran.journals (changed_workers ran.setup request))
      ≡ false

-- Each request after the first ones, as many as `base`, has its border at the row for which it
-- waits, or at the last row if that comes before.
abbrev pub AreExactAfter : ℕ → SoFar → Type 0
AreExactAfter base so_far =
    (request : ℕ) → base < request
    → IfSome (request_at so_far.setup request)
    (λ asked. IsBorder so_far.ran request (min asked.after (length so_far.rows)))
