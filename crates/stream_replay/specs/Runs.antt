-- The parts of a stream as they were run, and the records that tell them.
use Rattle.std.specs.Prelude.{◌≤◌, ⊤, ℕ, All, List, [], ◌∷◌, length, slice_range, take}
use Rattle.versions.specs.declared.request.Request.{Request}
use Rattle.sink_journal.specs.Audit.{audit_records}
use Rattle.flow_model.specs.Run.{IsRunSince, Ran}
use Rattle.savepoint.specs.Parts.{first_of}
use Rattle.audit_laws.specs.Part.{uncounted}
use Rattle.stream_replay.specs.InParts.{Given, PartStart, Records}

-- Where a part has ended: behind this row, this request, and so many refused requests that were
-- told. And what it left.
pub record PartEnd : Type 0 where
  pub row : ℕ
  pub turned : ℕ
  pub told : ℕ
  pub left : Ran

-- where the next part begins
abbrev pub start_past : PartEnd → PartStart
start_past end = record {
  begin = record { row = end.row; turned = end.turned; states = end.left.states };
  told = end.told;
}

-- From where it begins to where it has ended, the part is a run. None of the requests up to there
-- waits for a later row.
pub record RunsTo (given : Given) (start : PartStart) (end : PartEnd) : Type 0 where
  pub row : start.begin.row ≤ end.row
  pub fed : end.row ≤ length given.rows
  pub turned : start.begin.turned ≤ end.turned
  pub issued : end.turned ≤ length given.setup.requests
  pub due : All (λ (request : Request). request.after ≤ end.row)
      (take end.turned given.setup.requests)
  pub told : start.told ≤ end.told
  pub refused : end.told ≤ length given.refused
  pub run : IsRunSince start.begin (first_of given.setup end.turned) (take end.row given.rows)
      end.left

-- the records that tell it; they tell no counts
abbrev pub records_to : Given → PartStart → PartEnd → Records
records_to given start end =
    audit_records end.left.setup.job (slice_range given.refused start.told end.told)
    end.left.feeds end.left.journals (uncounted end.left).states

-- each part runs from where the one before it has ended
abbrev pub RunInTurn : Given → PartStart → List PartEnd → Type 0
RunInTurn given start [] = ⊤
RunInTurn given start (end ∷ later) =
    RunsTo given start end × RunInTurn given (start_past end) later

-- where the part after these begins
abbrev pub start_past_all : PartStart → List PartEnd → PartStart
start_past_all start [] = start
start_past_all start (end ∷ later) = start_past_all (start_past end) later

-- the records that tell these parts
abbrev pub records_in_turn : Given → PartStart → List PartEnd → List Records
records_in_turn given start [] = []
records_in_turn given start (end ∷ later) =
    records_to given start end ∷ records_in_turn given (start_past end) later
