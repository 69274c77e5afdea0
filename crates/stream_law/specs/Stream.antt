-- A run in many parts, each of which goes on from where all before it have ended.
use Rattle.std.specs.Prelude.{◌≡◌, ◌≤◌, ⊤, ℕ, All, List, [], ◌∷◌, drop, length, min, take}
use Rattle.std.specs.List.{flat_map}
use Rattle.jobs.specs.Nodes.{AreFromSources}
use Rattle.sink_journal.specs.Alerts.{all_alerts}
use Rattle.tuple_trace.specs.Rows.{AreRows}
use Rattle.tuple_trace.specs.declared.row.Row.{Row}
use Rattle.flow_model.specs.Consistent.{IsConsistent}
use Rattle.flow_model.specs.OneTable.{HasNoCounts}
use Rattle.flow_model.specs.Requests.{afters}
use Rattle.flow_model.specs.Run.{IsRun, IsRunSince, Ran}
use Rattle.flow_model.specs.Serial.{IsSerial, SeesPrefix, serial}
use Rattle.flow_model.specs.Setup.{setup_view}
use Rattle.flow_model.specs.SetupView.{SetupView}
use Rattle.flow_model.specs.declared.setup.Setup.{Setup}
use Rattle.savepoint.specs.Parts.{first_of, joined, start_of}

-- ---- what was run so far

-- What was run so far: the setup, the rows and the record.
pub record SoFar : Type 0 where
  pub setup : SetupView
  pub rows : List Row
  pub ran : Ran

-- the record is that of one run of these rows under this setup
abbrev pub IsRunSoFar : SoFar → Type 0
IsRunSoFar so_far = IsRun so_far.setup so_far.rows so_far.ran

-- if the rows enter by sources of the job, each is consistent in the record
abbrev pub IsConsistentSoFar : SoFar → Type 0
IsConsistentSoFar so_far =
    AreFromSources so_far.setup.job so_far.rows → IsConsistent so_far.rows so_far.ran

-- Rows and requests have one order. If no node counts and the rows enter by sources of the job, the
-- sinks got what each row makes by itself in that order.
pub record IsSerialSoFar (so_far : SoFar) : Type 0 where
  pub prefix : (row : ℕ) → SeesPrefix so_far.ran row (serial so_far.ran row)
  pub alone : HasNoCounts so_far.setup.job → AreFromSources so_far.setup.job so_far.rows
      → IsSerial so_far.rows so_far.ran

-- ---- parts

-- A part of a run: the setup with the requests that are issued up to the part's end, all rows up to
-- there, and what the part left.
pub record RunPart : Type 0 where
  pub setup : Setup
  pub rows : List Row
  pub left : Ran

-- The part goes on from where all so far has ended. Its rows and its requests begin with those so
-- far. Each request so far is due by the last of the rows so far. Each new one waits for this row
-- or for a later one.
pub record IsNextPart (so_far : SoFar) (part : RunPart) : Type 0 where
  pub numbered : AreRows part.rows
  pub rows_begin : take (length so_far.rows) part.rows ≡ so_far.rows
  pub requests_begin :
      first_of (setup_view part.setup) (length so_far.setup.requests) ≡ so_far.setup
  pub due : All (λ after. min after (length part.rows) ≤ length so_far.rows)
      (afters so_far.setup.requests)
  pub wait : All (λ after. length so_far.rows ≤ after)
      (drop (length so_far.setup.requests) (afters (setup_view part.setup).requests))
  pub goes_on : IsRunSince (start_of (length so_far.rows) so_far.ran) (setup_view part.setup)
      part.rows part.left

-- all so far, and then the part
abbrev pub with_part : SoFar → RunPart → SoFar
with_part so_far part = record {
  setup = setup_view part.setup;
  rows = part.rows;
  ran = joined (setup_view part.setup) so_far.ran part.left;
}

-- each part goes on from where all before it have ended
abbrev pub AreNextParts : SoFar → List RunPart → Type 0
AreNextParts so_far [] = ⊤
AreNextParts so_far (part ∷ later) =
    IsNextPart so_far part × AreNextParts (with_part so_far part) later

-- all so far, and then these parts
abbrev pub with_parts : SoFar → List RunPart → SoFar
with_parts so_far [] = so_far
with_parts so_far (part ∷ later) = with_parts (with_part so_far part) later

-- ---- what sinks show

-- what the sinks show of a record
abbrev pub alerts_in : Ran → List (List (List ℕ))
alerts_in ran = all_alerts ran.setup.job.columns ran.setup.job.nodes ran.journals

-- what the sinks show of each part, one after another
abbrev pub parts_alerts : List RunPart → List (List (List ℕ))
parts_alerts parts = flat_map (λ (part : RunPart). alerts_in part.left) parts
