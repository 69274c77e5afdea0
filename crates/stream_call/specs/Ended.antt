-- What a stream that has ended ran, and what it wrote and printed.
use Rattle.std.specs.Prelude.{◌≡◌, ◌⊎◌, ◌<◌, ◌-◌, ◌++◌, ℕ, List, [], IfSome, None, Option, Some}
use Rattle.std.specs.Prelude.{length}
use Rattle.input_pieces.specs.Taps.{TapState}
use Rattle.payments.specs.Causes.{Faults}
use Rattle.payments.specs.Files.{Files}
use Rattle.payments.specs.Growing.{with_text}
use Rattle.payments.specs.World.{ShelfState, SinkState, World}
use Rattle.versions.specs.declared.in_order.Refused.{Refused}
use Rattle.flow_model.specs.Run.{Ran}
use Rattle.flow_model.specs.declared.setup.Setup.{Setup}
use Rattle.fries_lines.specs.Lines.{refused_lines, summary_line}
use Rattle.fries_lines.specs.declared.fault.Fault.{Fault}
use Rattle.fries_steps.specs.Effects.{Prints}
use Rattle.stream_law.specs.Stream.{IsRunSoFar, SoFar}
use Rattle.stream_rows.specs.Reader.{fed_of}
use Rattle.stream_save.specs.declared.fault.StreamSaveFault.TheVariants as save
use Rattle.stream_step.specs.declared.stream.Stream.{Stream}
use Rattle.stream_run.specs.Files.{alerts_text, audit_text}
use Rattle.stream_law.specs.Border.{AreExactAfter}
use Rattle.stream_intake.specs.Intake.{IsKnownTo}
use Rattle.stream_run.specs.Growing.{Goes, GoesAndStops, IsBooked, Names, parts_in}
use Rattle.stream_run.specs.Parts.{HasCome, Part, with_all, with_one}
use Rattle.stream_run.specs.Standing.{FileHolds, saved_text}
use Rattle.stream_run.specs.Unwritten.{IsUnwritten}
use Rattle.stream_run.specs.declared.books.Books.{Books}
use Rattle.stream_parts.specs.End.{IsLastRun, StopsAtEnd}
use Rattle.stream_turns.specs.Taken.{HasTakenTurn, StreamState, at}
use Rattle.stream_turns.specs.Turns.{IsGivenUp}
use Rattle.stream_turns.specs.declared.inputs.StreamInputs.{StreamInputs}
use Rattle.stream_turns.specs.declared.turns.End.{End}
use Rattle.stream_turns.specs.declared.turns.End.TheVariants as end
use Rattle.fries_words.specs.declared.stream.StreamFiles.{StreamFiles}
use Rattle.stream_call.specs.Opened.{Opens, every_of, names_of}
use Rattle.stream_call.specs.Unopened.{IsUnopened}
use Rattle.stream_call.specs.declared.fault.StreamFault.{StreamFault}
use Rattle.stream_call.specs.declared.fault.StreamFault.TheVariants as stream
use Rattle.stream_call.specs.declared.opened.Opened.{Opened}

-- How a stream is run: its files, after how many rows its savepoint is written, if one is, and a
-- source of its job.
pub record Terms : Type 0 where
  pub names : Names
  pub every : Option ℕ
  pub source : ℕ

abbrev pub terms : Names → Option ℕ → ℕ → Terms
terms names every source = record { names = names; every = every; source = source }

-- how a stream is run that was opened as it was asked
abbrev pub terms_of : StreamFiles → Opened → Terms
terms_of asked opened = terms (names_of asked) (every_of asked.saving) opened.source

-- ---- turn after turn

-- From its beginning a stream took turns until this end. Of the input that was taken, just the rows
-- were run that come after its last one.
pub record HasTakenTurns (names : Names) (begin : StreamState) (why : End) (tap : TapState)
    : Type 0 where
  pub stream : Stream
  pub files : Option Files
  pub inputs : StreamInputs
  pub took : HasTakenTurn names (fed_of begin.inputs.reader) [] begin (Some why)
      (at stream files inputs tap)

-- ---- the savepoint and the last part

-- the savepoint, if one is asked for, tells where the stream is, and nothing else was written
pub record IsSavedAt (terms : Terms) (stream : Stream) (books : Books) (before after : Option Files)
    : Type 0 where
  pub goes : Goes terms.names [] stream before stream after
  pub holds : IfSome terms.every (λ every. FileHolds after terms.names.save
      (saved_text stream books.read books.tally.alerts books.tally.audit))

-- The savepoint was written where the stream is. Then the last part was run, and it was written.
pub record HasEndedAt (terms : Terms) (stream : Stream) (books : Books)
    (before after : Option Files) : Type 0 where
  pub saved : Option Files
  pub is_saved : IsSavedAt terms stream books before saved
  pub setup : Setup
  pub left : Ran
  pub last : IsLastRun stream terms.source setup left
  pub files_are : after ≡ with_text (with_text saved terms.names.alerts (alerts_text left))
      terms.names.audit (audit_text books.refused.items left)

-- the part without rows that ends a stream
abbrev pub last_part : Setup → Ran → Part
last_part setup left = record { setup = setup; rows = []; left = left }

-- What a stream leaves: what it keeps of its inputs, the tap of its rows, and the files.
pub record Left : Type 0 where
  pub inputs : StreamInputs
  pub tap : TapState
  pub shelf : ShelfState

abbrev pub stream_leaves : StreamInputs → TapState → ShelfState → Left
stream_leaves inputs tap shelf = record { inputs = inputs; tap = tap; shelf = shelf }

-- The inputs are as before, but for the books; and these have read as many requests.
pub record AreKept (old new : StreamInputs) : Type 0 where
  pub reader : new.reader ≡ old.reader
  pub known : new.known ≡ old.known
  pub refused : new.refused ≡ old.refused
  pub read : new.books.read ≡ old.books.read

-- All of the input was taken, all its rows were run, and the stream was ended. All known requests
-- that were accepted are the stream's. Whatever it had run before, that and all parts since are one
-- run; if it is exact, each request issued since it began to be has its border at its row.
pub record EndsWhole (terms : Terms) (begin : StreamState) (left : Left) : Type 0 where
  pub turned : HasTakenTurns terms.names begin end.Input left.tap
  pub all_run : fed_of left.inputs.reader ≡ turned.stream.start.row
  pub ended : HasEndedAt terms turned.stream left.inputs.books turned.files left.shelf.files
  pub kept : AreKept turned.inputs left.inputs
  pub booked : IsBooked ended.is_saved.goes.written turned.inputs.books left.inputs.books
  pub known : IsKnownTo left.inputs.known.requests turned.stream
  pub one_run : (before : Option SoFar) → HasCome begin.stream before
      → IsRunSoFar (with_one (with_all before (parts_in turned.took.0.ran.goes.written))
      (last_part ended.setup ended.left))
  pub exact : (before : Option SoFar) → HasCome begin.stream before
      → IfSome begin.stream.exact (λ base. AreExactAfter base
      (with_one (with_all before (parts_in turned.took.0.ran.goes.written))
      (last_part ended.setup ended.left)))

-- ---- why it ends early

-- A turn was given up: memory ran out, or a file wasn't written. The files have the texts of some
-- parts, and maybe first bytes of those of one more.
abbrev pub IsGivenUpIn : Names → StreamState → Faults → ShelfState → StreamFault → Type 0
IsGivenUpIn names begin faults after (stream.Call why) =
    IsGivenUp names faults after.faults why
    × GoesAndStops names begin.stream begin.files after.files
IsGivenUpIn names begin faults after (stream.Save why) = ⊥
IsGivenUpIn names begin faults after (stream.Ahead row) = ⊥

-- The input has this fault. All rows before it were run, and the savepoint was written. All known
-- requests that were accepted are the stream's.
pub record EndsByInput (terms : Terms) (begin : StreamState) (left : Left) (why : StreamFault)
    : Type 0 where
  pub fault : Fault
  pub why_is : why ≡ stream.Call fault
  pub turned : HasTakenTurns terms.names begin (end.Fault fault) left.tap
  pub is_saved : IsSavedAt terms turned.stream left.inputs.books turned.files left.shelf.files
  pub kept : AreKept turned.inputs left.inputs
  pub booked : IsBooked is_saved.goes.written turned.inputs.books left.inputs.books
  pub known : IsKnownTo left.inputs.known.requests turned.stream

-- The savepoint was written, and the last part was run. The files may have first bytes of its
-- texts.
pub record StopsBehindSave (terms : Terms) (stream : Stream) (books : Books)
    (before after : Option Files) : Type 0 where
  pub saved : Option Files
  pub is_saved : IsSavedAt terms stream books before saved
  pub stopped : StopsAtEnd terms.names books.refused.items terms.source stream saved after

-- Why a stream isn't ended where it is: a file wasn't written, or memory ran out; or its input had
-- fewer rows than it had run before.
abbrev pub IsUnended : Terms → Stream → ShelfState → ShelfState → StreamInputs → StreamFault
    → Type 0
IsUnended terms last before after inputs (stream.Call why) =
    IsUnwritten terms.names before.faults after.faults why
    × ((after.files ≡ before.files)
    ⊎ StopsBehindSave terms last inputs.books before.files after.files)
IsUnended terms last before after inputs (stream.Save why) =
    (why ≡ save.Past last.start.row) × (fed_of inputs.reader < last.start.row)
    × (after.files ≡ before.files)
IsUnended terms last before after inputs (stream.Ahead row) = ⊥

-- All of the input was taken, and the stream isn't ended.
pub record EndsNot (terms : Terms) (begin : StreamState) (faults : Faults) (left : Left)
    (why : StreamFault) : Type 0 where
  pub turned : HasTakenTurns terms.names begin end.Input left.tap
  pub shelf : ShelfState
  pub files_are : shelf.files ≡ turned.files
  pub writes : shelf.faults.writes ≡ faults.writes
  pub kept : AreKept turned.inputs left.inputs
  pub unended : IsUnended terms turned.stream shelf left.shelf left.inputs why

-- why a stream has this fault, which was begun with files of which so many reads and writes had
-- failed
abbrev pub IsLeftBy : Terms → StreamState → Faults → Left → StreamFault → Type 0
IsLeftBy terms begin faults left why = IsGivenUpIn terms.names begin faults left.shelf why
    ⊎ (EndsByInput terms begin left why ⊎ EndsNot terms begin faults left why)

-- ---- what is printed

-- the requests that were refused since the call began, and the summary of so many rows
abbrev pub end_lines : StreamInputs → ℕ → List ℕ
end_lines inputs rows =
    refused_lines inputs.refused
    ++ summary_line
    (record {
      rows = rows;
      alerts = inputs.books.tally.shown;
      requests = length inputs.known.requests;
      refused = length inputs.refused;
    })

-- the output refused the lines, or memory ran out
abbrev pub IsUnprinted : List ℕ → SinkState → StreamFault → Type 0
IsUnprinted lines out (stream.Call why) = (left : SinkState) × Prints lines out left (Some why)
IsUnprinted lines out (stream.Save why) = ⊥
IsUnprinted lines out (stream.Ahead row) = ⊥

-- ---- the call

-- A stream was opened and ended whole, and its lines were printed.
pub record HasStreamed (asked : StreamFiles) (old new : World) (before after : TapState)
    (refused : List Refused) : Type 0 where
  pub opened : Opened
  pub shelf : ShelfState
  pub opens : Opens asked old.shelf shelf opened
  pub inputs : StreamInputs
  pub ended : EndsWhole (terms_of asked opened)
      (at opened.stream shelf.files opened.inputs before) (stream_leaves inputs after new.shelf)
  pub refused_are : refused ≡ inputs.refused
  pub prints : Prints (end_lines inputs (fed_of inputs.reader - opened.stream.start.row))
      old.out new.out None

-- Why a stream has this fault, and what it leaves of its files.
pub data HasStopped (asked : StreamFiles) (old new : World) (before after : TapState)
    (refused : List Refused) : StreamFault → Type 0 where
  -- it wasn't opened, and nothing of its input was taken
  Unopened : (why : StreamFault) → IsUnopened asked old.shelf new.shelf why → refused ≡ []
      → after ≡ before → HasStopped asked old new before after refused why
  -- it was left before its end
  Early : (opened : Opened) (shelf : ShelfState) (inputs : StreamInputs) (why : StreamFault)
      → Opens asked old.shelf shelf opened
      → IsLeftBy (terms_of asked opened) (at opened.stream shelf.files opened.inputs before)
      old.shelf.faults (stream_leaves inputs after new.shelf) why → refused ≡ inputs.refused
      → HasStopped asked old new before after refused why
  -- it ended whole, and the output refused its lines, or memory ran out
  Unprinted : (opened : Opened) (shelf : ShelfState) (inputs : StreamInputs) (why : StreamFault)
      → Opens asked old.shelf shelf opened
      → EndsWhole (terms_of asked opened) (at opened.stream shelf.files opened.inputs before)
      (stream_leaves inputs after new.shelf) → refused ≡ inputs.refused
      → IsUnprinted (end_lines inputs (fed_of inputs.reader - opened.stream.start.row)) old.out why
      → HasStopped asked old new before after refused why
