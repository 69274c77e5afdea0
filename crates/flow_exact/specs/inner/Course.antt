-- What was run in parts so far.
use Rattle.std.specs.Prelude.{◌≡◌, ◌≤◌, ◌++◌, ℕ, All, List, length, map, min, take}
use Rattle.std.specs.List.{zip}
use Rattle.cover_planner.specs.declared.cover.Plan.{Plan}
use Rattle.jobs.specs.Nodes.{AreFromSources}
use Rattle.tuple_trace.specs.declared.row.Row.{Row}
use Rattle.versions.specs.declared.request.Request.{Request}
use Rattle.flow_model.specs.Requests.{afters}
use Rattle.flow_model.specs.Run.{Ran, ran_as}
use Rattle.flow_model.specs.Setup.{setup_view}
use Rattle.flow_model.specs.SetupView.{SetupView}
use Rattle.savepoint.specs.Parts.{joined_journal, unstopped}
use Rattle.stream_law.specs.Stream.{IsRunSoFar}
use Rattle.stream_law.specs.Border.{AreExactAfter}
use Rattle.flow_exact.specs.declared.course.Course.{Course}
use Rattle.flow_exact.specs.declared.trail.Trail.{Trail}

-- ---- records

-- what the parts left together
abbrev pub ran_of : Course → Ran
ran_of course = ran_as (setup_view course.setup) course.trail.feeds course.trail.journals
    course.start.states

-- what a part left, with what earlier parts left before it
abbrev pub after_trail : Trail → Ran → Ran
after_trail trail part = ran_as part.setup (unstopped trail.feeds ++ part.feeds)
    (map joined_journal (zip trail.journals part.journals)) part.states

-- ---- requests

-- the setup with these requests and plans in place of its own
abbrev pub with_requests : SetupView → List Request → List Plan → SetupView
with_requests setup requests plans = record setup { requests = requests; plans = plans }

-- ---- exact runs

-- The first of the rows, as many as `fed`, are run under this setup, and all borders are exact.
-- Each request is due by then, of all rows.
pub record IsExactRun (rows : List Row) (setup : SetupView) (fed : ℕ) (ran : Ran) : Type 0 where
  pub within : fed ≤ length rows
  pub run : IsRunSoFar (record { setup = setup; rows = take fed rows; ran = ran })
  pub exact : AreExactAfter 0 (record { setup = setup; rows = take fed rows; ran = ran })
  pub due : All (λ after. min after (length rows) ≤ fed) (afters setup.requests)

-- the course is that of an exact run of the first of these rows, which enter by sources of the job
pub record IsCourse (rows : List Row) (course : Course) : Type 0 where
  pub run : IsExactRun rows (setup_view course.setup) course.start.row (ran_of course)
  pub turned_is : course.start.turned ≡ length (setup_view course.setup).requests
  pub sources : AreFromSources (setup_view course.setup).job rows
