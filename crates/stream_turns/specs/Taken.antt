-- What a stream has taken of its input, which rows of that it has run, and why it ends.
use Rattle.std.specs.Prelude.{◌≡◌, ◌⊎◌, ◌<◌, ◌+◌, ◌-◌, ◌++◌, ℕ, List, [], Option, None, Some}
use Rattle.std.specs.Prelude.{drop, false, length, map, true}
use Rattle.std.specs.Io.KnownBytes.{IsAtEnd}
use Rattle.csv.specs.Reading.{default_config, records, strip_bom}
use Rattle.input_pieces.specs.Cut.{IsCut}
use Rattle.input_pieces.specs.Gathering.{Gathers, is_over, kept_of}
use Rattle.input_pieces.specs.Taps.{TapState}
use Rattle.jobs.specs.Job.{job_view}
use Rattle.jobs.specs.JobView.{JobView}
use Rattle.payments.specs.Files.{Files}
use Rattle.payments.specs.declared.read.PFault.{PFault}
use Rattle.payments.specs.declared.read.PFault.TheVariants as payments
use Rattle.tuple_trace.specs.declared.row.Row.{Row}
use Rattle.versions.specs.declared.request.Request.{Request}
use Rattle.fries_lines.specs.Lines.{noted}
use Rattle.fries_lines.specs.declared.fault.Fault.TheVariants as fault
use Rattle.stream_rows.specs.Reader.{IsReadTo, has_items}
use Rattle.stream_rows.specs.Rows.{stream_rows}
use Rattle.stream_intake.specs.Intake.{refused_after}
use Rattle.stream_run.specs.Growing.{Goes, Names, Written, all_counted, refused_in}
use Rattle.stream_step.specs.declared.stream.Stream.{Stream}
use Rattle.stream_turns.specs.Turns.{IsUnreadable, IsDrained}
use Rattle.stream_turns.specs.declared.inputs.StreamInputs.{StreamInputs}
use Rattle.stream_turns.specs.declared.turns.End.{End}
use Rattle.stream_turns.specs.declared.turns.End.TheVariants as end

-- ---- a text of payments, before which rows were skipped

-- its rows after this one
abbrev pub rows_to_run : JobView → ℕ → List ℕ → ℕ → List Row
rows_to_run job skipped text last = drop (last - skipped) (stream_rows job skipped text).rows

-- its first fault, if more may come after it
abbrev pub fault_in : JobView → ℕ → List ℕ → Option PFault
fault_in job skipped text = (stream_rows job skipped text).fault

-- whether it has a header
abbrev pub HasHeader : List ℕ → Type 0
HasHeader text = has_items (records default_config (strip_bom text)) ≡ true

-- ---- where a stream is

-- A stream, the files that it writes, and what it reads: its inputs, and the tap of its rows.
pub record StreamState : Type 0 where
  pub stream : Stream
  pub files : Option Files
  pub inputs : StreamInputs
  pub tap : TapState

abbrev pub at : Stream → Option Files → StreamInputs → TapState → StreamState
at stream files inputs tap =
    record { stream = stream; files = files; inputs = inputs; tap = tap }

-- the job of the stream
abbrev pub job_at : StreamState → JobView
job_at place = job_view place.stream.setup.job

-- This text was taken of the input, after `skipped` rows. It has no fault so far. It is cut between
-- records, unless the input is over.
pub record HasReadText (skipped : ℕ) (text : List ℕ) (place : StreamState) : Type 0 where
  pub read : IsReadTo (job_at place) skipped place.inputs.reader text
  pub cut : is_over place.inputs.pieces ≡ false → IsCut default_config text
  pub whole : IsDrained place.inputs.pieces place.tap

-- ---- what a stream runs of a text

-- The books count all that was written. The requests that were known come first in those that are
-- known. Those of the others that the stream refuses are noted: they are told by what was written,
-- or the books still have them.
pub record HasBooked (stream : Stream) (written : List Written) (old new : StreamInputs)
    : Type 0 where
  pub tally : new.books.tally ≡ all_counted old.books.tally written
  pub more : List Request
  pub known : new.known.requests ≡ old.known.requests ++ more
  pub refused : new.refused
      ≡ old.refused ++ refused_after stream old.known.requests new.known.requests
  pub told : refused_in written ++ new.books.refused.items ≡ old.books.refused.items
      ++ map noted (refused_after stream old.known.requests new.known.requests)
  pub read : old.books.read ≡ length old.known.requests
      → new.books.read ≡ length new.known.requests

-- Just these rows were run and written, and all is in the books.
pub record HasRunRows (names : Names) (rows : List Row) (old new : StreamState) : Type 0 where
  pub goes : Goes names rows old.stream old.files new.stream new.files
  pub row : new.stream.start.row ≡ old.stream.start.row + length rows
  pub booked : HasBooked old.stream goes.written old.inputs new.inputs

-- The bytes `given` were taken of the input, none if it was over. Of the text with them, just the
-- rows were run that come after the last row.
pub record HasGone (names : Names) (skipped : ℕ) (text : List ℕ) (old new : StreamState)
    : Type 0 where
  pub given : List ℕ
  pub gathered : Gathers old.tap.left new.tap.left (kept_of old.inputs.pieces) given
      (kept_of new.inputs.pieces)
  pub over : is_over old.inputs.pieces ≡ true
      → (given ≡ []) × (is_over new.inputs.pieces ≡ true)
  pub ran : HasRunRows names
      (rows_to_run (job_at old) skipped (text ++ given) old.stream.start.row) old new

-- A stream has gone on, and no fault was met.
pub record HasGoneOn (names : Names) (skipped : ℕ) (text : List ℕ) (old new : StreamState)
    : Type 0 where
  pub gone : HasGone names skipped text old new
  pub taken : HasReadText skipped (text ++ gone.given) new
  pub faults : new.tap.faults ≡ old.tap.faults

-- ---- why a stream ends

-- the end of a stream after a text with this fault, or with none
abbrev pub end_for : Option PFault → Option End
end_for None = None
end_for (Some why) = Some (end.Fault (fault.Payments why))

-- the whole input was taken
abbrev pub IsAllTaken : StreamState → Type 0
IsAllTaken place = (kept_of place.inputs.pieces ≡ []) × IsAtEnd place.tap.left

-- The stream ends after this text. Either its input has ended, and it has a header and no fault; or
-- the text has a fault after the rows that were run; or the input has no header, or isn't read on.
abbrev pub EndsAs : End → ℕ → List ℕ → StreamState → StreamState → Type 0
EndsAs end.Input skipped text old new =
    IsReadTo (job_at old) skipped new.inputs.reader text × HasHeader text × IsAllTaken new
EndsAs (end.Fault why) skipped text old new =
    ((is : PFault) × (fault_in (job_at old) skipped text ≡ Some is) × (why ≡ fault.Payments is))
    ⊎ (fault_in (job_at old) skipped text ≡ None)
    × ((why ≡ fault.Payments payments.NoHeader)
    × (has_items (records default_config (strip_bom text)) ≡ false) × IsAllTaken new
    ⊎ IsUnreadable new.inputs.pieces old.tap.faults new.tap.faults why)

-- A stream has gone on, if it doesn't end: at least one byte more was taken. Else it has gone as
-- far as its input goes without a fault.
abbrev pub HasTakenTurn : Names → ℕ → List ℕ → StreamState → Option End → StreamState → Type 0
HasTakenTurn names skipped text old None new =
    (on : HasGoneOn names skipped text old new) × (0 < length on.gone.given)
HasTakenTurn names skipped text old (Some why) new =
    (gone : HasGone names skipped text old new)
    × EndsAs why skipped (text ++ gone.given) old new

-- It has turned so, whatever was taken before.
abbrev pub TakesTurns : Names → StreamState → Option End → StreamState → Type 0
TakesTurns names old ends new =
    (skipped : ℕ) (text : List ℕ) → HasReadText skipped text old
    → HasTakenTurn names skipped text old ends new

-- A text was run up to its first fault, or to its end. Of its input nothing more was taken.
pub record HasRunText (names : Names) (skipped : ℕ) (text : List ℕ) (old : StreamState)
    (ends : Option End) (new : StreamState) : Type 0 where
  pub ran : HasRunRows names (rows_to_run (job_at old) skipped text old.stream.start.row) old new
  pub end_is : ends ≡ end_for (fault_in (job_at old) skipped text)
  pub read : ends ≡ None → IsReadTo (job_at old) skipped new.inputs.reader text
  pub pieces_are : new.inputs.pieces ≡ old.inputs.pieces
