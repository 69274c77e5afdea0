-- A run in parts, as the audit of a stream tells it: each part goes on from where the one before
-- it has ended.
use Rattle.std.specs.Prelude.{◌≡◌, ◌+◌, ⊤, ℕ, List, [], ◌∷◌, drop, length, min, nat_le}
use Rattle.std.specs.Prelude.{map, slice_range, take}
use Rattle.std.specs.List.{count_by}
use Rattle.tuple_trace.specs.declared.row.Row.{Row}
use Rattle.versions.specs.declared.request.Request.{Request}
use Rattle.sink_journal.specs.Audit.{audit_records}
use Rattle.sink_journal.specs.declared.audit.Noted.{Noted}
use Rattle.flow_model.specs.Begin.{Begin, at_first}
use Rattle.flow_model.specs.Run.{IsRunSince, Ran}
use Rattle.flow_model.specs.Setup.{setup_view}
use Rattle.flow_model.specs.SetupView.{SetupView}
use Rattle.flow_model.specs.declared.setup.Setup.{Setup}
use Rattle.savepoint.specs.Parts.{first_of}
use Rattle.audit_laws.specs.Part.{uncounted}
use Rattle.audit_parts.specs.Cut.{is_fed_record, is_issued_record, is_refused_record}
use Rattle.fries_lines.specs.Lines.{noted}

-- the records of the audit of one part, without a header
abbrev pub Records : Type 0
Records = List (List (List ℕ))

-- What all parts are of: the setup, the refused requests as an audit notes them, and the rows.
pub record Given : Type 0 where
  pub setup : SetupView
  pub refused : List Noted
  pub rows : List Row

-- that of a setup and these rows
abbrev pub given_in_parts : Setup → List Row → Given
given_in_parts setup rows = record {
  setup = setup_view setup;
  refused = map noted setup.judged.refused;
  rows = rows;
}

-- Where a part begins, and how many refused requests were told before it.
pub record PartStart : Type 0 where
  pub begin : Begin
  pub told : ℕ

-- the beginning of all
abbrev pub first_start : Given → PartStart
first_start given = record { begin = at_first given.setup; told = 0 }

-- ---- how far a part goes, as its records count

-- the row up to which it feeds
abbrev pub row_in : Given → PartStart → Records → ℕ
row_in given start records =
    min (start.begin.row + count_by is_fed_record records) (length given.rows)

-- how many of these requests wait for no later row
abbrev pub due_count : ℕ → List Request → ℕ
due_count row requests = count_by (λ (request : Request). nat_le request.after row) requests

-- the request up to which it issues, which is none that waits for a later row
abbrev pub turned_in : Given → PartStart → Records → ℕ
turned_in given start records =
    start.begin.turned + min (count_by is_issued_record records)
    (due_count (row_in given start records) (drop start.begin.turned given.setup.requests))

-- how many refused requests are told up to its end
abbrev pub told_up_to : Given → PartStart → Records → ℕ
told_up_to given start records =
    min (start.told + count_by is_refused_record records) (length given.refused)

-- the refused requests that it tells
abbrev pub refused_told : Given → PartStart → Records → List Noted
refused_told given start records =
    slice_range given.refused start.told (told_up_to given start records)

-- where the next part begins if this one left this
abbrev pub start_after : Given → PartStart → Records → Ran → PartStart
start_after given start records left = record {
  begin = record {
    row = row_in given start records;
    turned = turned_in given start records;
    states = left.states;
  };
  told = told_up_to given start records;
}

-- ---- the parts

-- What a part left that isn't the last: a run from where it begins, of which these records are the
-- audit. It tells no counts.
pub record IsPartReplay (given : Given) (start : PartStart) (records : Records) (left : Ran)
    : Type 0 where
  pub run :
      IsRunSince start.begin (first_of given.setup (turned_in given start records))
      (take (row_in given start records) given.rows) left
  pub told :
      records ≡ audit_records left.setup.job (refused_told given start records) left.feeds
      left.journals (uncounted left).states

-- What the last part left: a run of all other rows and requests.
pub record IsLastReplay (given : Given) (start : PartStart) (records : Records) (left : Ran)
    : Type 0 where
  pub run : IsRunSince start.begin given.setup given.rows left
  pub told :
      records ≡ audit_records left.setup.job (drop start.told given.refused) left.feeds
      left.journals left.states

-- Parts that aren't the last left this, each a run from where the one before it has ended.
abbrev pub ArePartRuns : Given → PartStart → List Records → List Ran → Type 0
ArePartRuns given start [] [] = ⊤
ArePartRuns given start (records ∷ later) (left ∷ more) =
    IsPartReplay given start records left
    × ArePartRuns given (start_after given start records left) later more
ArePartRuns given start [] (left ∷ more) = ⊥
ArePartRuns given start (records ∷ later) [] = ⊥

-- where the part after these begins, if they left this
abbrev pub start_behind : Given → PartStart → List Records → List Ran → PartStart
start_behind given start (records ∷ later) (left ∷ more) =
    start_behind given (start_after given start records left) later more
start_behind given start [] lefts = start
start_behind given start (records ∷ later) [] = start

-- These parts, and then the last one, are runs one after another.
pub record AreRunInParts (given : Given) (earlier : List Records) (last : Records) : Type 0 where
  pub lefts : List Ran
  pub left : Ran
  pub runs : ArePartRuns given (first_start given) earlier lefts
  pub ends : IsLastReplay given (start_behind given (first_start given) earlier lefts) last left
