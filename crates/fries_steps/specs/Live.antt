-- What a live call runs, and what its reader takes.
use Rattle.std.specs.Prelude.{◌≡◌, ◌≤◌, ◌++◌, ◌∷◌, ℕ, Bool, true, false, Contains, List, Option}
use Rattle.std.specs.Prelude.{None, Some, length, if◌then◌else◌}
use Rattle.jobs.specs.JobView.{JobView}
use Rattle.sink_journal.specs.declared.journal.Feed.{Feed}
use Rattle.sink_journal.specs.declared.journal.Feed.TheVariants as feed
use Rattle.tuple_trace.specs.declared.row.Row.{Row}
use Rattle.versions.specs.Judged.{judged}
use Rattle.versions.specs.declared.request.Request.{Request}
use Rattle.flow_model.specs.Waiting.{with_afters}
use Rattle.coordinator.specs.Feeding.{issue_rows}
use Rattle.flow_engine.specs.Recorded.{NoneIsEarly}
use Rattle.live_control.specs.Asking.{AsksIs}
use Rattle.live_control.specs.Hearing.{IsHeard}
use Rattle.fries_lines.specs.Lines.{refused_lines}
use Rattle.fries_lines.specs.declared.fault.Fault.{Fault}
use Rattle.fries_lines.specs.declared.fault.Fault.TheVariants as fault
use Rattle.fries_lines.specs.declared.fault.FileIs.TheVariants as file
use Rattle.fries_steps.specs.Running.{IsRunOf, run_lines}
use Rattle.fries_steps.specs.declared.live.LiveDone.{LiveDone}

-- ---- the run

-- The requests of a live record are the accepted ones. Each waits for the number of rows that were
-- fed before it was issued, which is no fewer than it asks for, of those that there are.
pub record AreReleased (rows : ℕ) (feeds : List Feed) (accepted kept : List Request) : Type 0 where
  pub kept_are : kept ≡ with_afters (issue_rows 0 feeds) accepted
  pub not_early : NoneIsEarly rows accepted kept

-- a request is issued before the last row only if it was released
abbrev pub AreIssuedReleased : ℕ → List Feed → Type 0
AreIssuedReleased releases feeds =
    (before after : List Feed) (r n : ℕ) → feeds ≡ before ++ feed.Issued r ∷ after
    → Contains after (feed.Fed n) → r ≤ releases

-- The rows were run by the setup of the job and its requests, with rows for these that their
-- releases left them. The reader took what it takes for these requests, and a request was issued
-- before the last row only if the reader had taken its line feed.
pub record IsLiveRun (job : JobView) (requests : List Request) (rows : List Row) (was now : AsksIs)
    (live : LiveDone) : Type 0 where
  pub run :
      IsRunOf (AreReleased (length rows) live.done.ran.feeds) false job requests rows live.done
  pub heard : IsHeard (length (judged job requests).accepted) was now live.heard
  pub released : AreIssuedReleased live.heard.releases live.done.ran.feeds

-- ---- what is written of it

-- what is printed: as of any run, but without a summary if the input failed
abbrev pub live_lines : LiveDone → List ℕ
live_lines live = if live.heard.failed then refused_lines live.done.refused else run_lines live.done

-- the fault of a call whose files and lines came to this: that of the input comes last
abbrev pub live_fault : Bool → Option Fault → Option Fault
live_fault failed (Some why) = Some why
live_fault true None = Some (fault.Read file.Asks)
live_fault false None = None
