-- What the turns of a run leave.
use Rattle.std.specs.Prelude.{◌≡◌, ◌≤◌, ℕ, Bool, true, List, length, map, min, Some, slice_get}
use Rattle.std.specs.List.{range_with_len}
use Rattle.sink_journal.specs.declared.journal.Feed.{Feed}
use Rattle.tuple_trace.specs.declared.row.Row.{Row}
use Rattle.versions.specs.declared.request.Request.{Request}
use Rattle.flow_model.specs.Begin.{Begin}
use Rattle.flow_model.specs.Requests.{afters}
use Rattle.flow_model.specs.Run.{IsRunSince}
use Rattle.flow_model.specs.SetupView.{SetupView}
use Rattle.flow_model.specs.Workers.{workers_in}
use Rattle.flow_worker.specs.Parts.{WorkedIs}
use Rattle.coordinator.specs.Feeding.{AreRising, issue_rows}
use Rattle.flow_crew.specs.Ended.{record_of}
use Rattle.flow_engine.specs.Flown.{number_worked}
use Rattle.flow_engine.specs.Recorded.{recorded}

-- The rows after which the requests of a setup were issued: one for each, in order, and none before
-- the row that the request asks for.
pub record AreWaits (rows : ℕ) (requests : List Request) (waits : List ℕ) : Type 0 where
  pub one_each : length waits ≡ length requests
  pub rising : AreRising 0 waits
  pub not_before :
      (place after waited : ℕ) → slice_get (afters requests) place ≡ Some after
      → slice_get waits place ≡ Some waited → min after rows ≤ waited

-- nothing was fed or turned before the beginning
abbrev pub IsFirst : Begin → Type 0
IsFirst begin = (begin.row ≡ 0) × (begin.turned ≡ 0)

-- What the turns of a run leave, from a beginning on: a feed and what each worker leaves, which are
-- a run of the recorded setup.
pub record HasRun (live : Bool) (begin : Begin) (setup : SetupView) (rows : List Row)
    (feeds : List Feed) (crew : List WorkedIs) : Type 0 where
  pub crew_is : map number_worked crew ≡ range_with_len 0 (length (workers_in setup.job))
  pub waits : live ≡ true → AreWaits (length rows) setup.requests (issue_rows 0 feeds)
  pub run :
      IsRunSince begin (recorded live feeds setup) rows
      (record_of (recorded live feeds setup) feeds crew)
