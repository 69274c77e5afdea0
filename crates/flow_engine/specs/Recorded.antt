-- Under which setup a run is recorded.
use Rattle.std.specs.Prelude.{◌≡◌, ◌≤◌, ℕ, Bool, true, false, List, min, Some, slice_get}
use Rattle.sink_journal.specs.declared.journal.Feed.{Feed}
use Rattle.versions.specs.declared.request.Request.{Request}
use Rattle.flow_model.specs.Requests.{afters}
use Rattle.flow_model.specs.Setup.{setup_view}
use Rattle.flow_model.specs.SetupView.{SetupView}
use Rattle.flow_model.specs.Waiting.{waiting_for}
use Rattle.flow_model.specs.declared.setup.Setup.{Setup}
use Rattle.coordinator.specs.Feeding.{issue_rows}

-- The setup under which a run with this feed is recorded. In a live run each request waits for the
-- number of rows that were fed before it was issued.
abbrev pub recorded : Bool → List Feed → SetupView → SetupView
recorded false feeds setup = setup
recorded true feeds setup = waiting_for (issue_rows 0 feeds) setup

-- The same of setups as code has them: nothing else changes.
abbrev pub IsRecorded : Bool → List Feed → Setup → Setup → Type 0
IsRecorded false feeds asked setup = setup ≡ asked
IsRecorded true feeds asked setup =
    (setup_view setup ≡ recorded true feeds (setup_view asked))
    × (setup.judged.refused ≡ asked.judged.refused)

-- no request waits for fewer rows than it asked for, of those that there are
abbrev pub NoneIsEarly : ℕ → List Request → List Request → Type 0
NoneIsEarly rows asked requests =
    (place after waited : ℕ) → slice_get (afters asked) place ≡ Some after
    → slice_get (afters requests) place ≡ Some waited → min after rows ≤ waited
