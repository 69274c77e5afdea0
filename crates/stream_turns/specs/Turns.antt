-- When a stream can take a turn, and what a read of its input gives.
use Rattle.std.specs.Prelude.{◌≡◌, ◌⊎◌, ◌<◌, ◌≤◌, ℕ, List, [], IfSome, Option, false, length, max}
use Rattle.std.specs.Prelude.{true}
use Rattle.std.specs.Io.KnownBytes.{IsAtEnd}
use Rattle.csv.specs.Reading.{default_config}
use Rattle.input_pieces.specs.Cut.{IsCut, IsUncut}
use Rattle.input_pieces.specs.Gathering.{Gathers, is_over, kept_of}
use Rattle.input_pieces.specs.Taps.{TapState}
use Rattle.input_pieces.specs.declared.pieces.Pieces.{Pieces}
use Rattle.input_pieces.specs.declared.limits.TheConstants.{MAX_RECORD}
use Rattle.jobs.specs.Job.{job_view}
use Rattle.jobs.specs.Nodes.{IsSourceOf}
use Rattle.payments.specs.Causes.{Faults}
use Rattle.tuple_trace.specs.Counts.{Rose}
use Rattle.fries_lines.specs.declared.fault.Fault.{Fault}
use Rattle.fries_lines.specs.declared.fault.Fault.TheVariants as fault
use Rattle.fries_lines.specs.declared.fault.FileIs.TheVariants as file
use Rattle.stream_rows.specs.Reader.{fed_of}
use Rattle.stream_rows.specs.declared.limits.TheConstants.{MAX_ROWS}
use Rattle.stream_step.specs.declared.stream.Stream.{Stream}
use Rattle.stream_intake.specs.Intake.{IsKnownTo}
use Rattle.stream_run.specs.Growing.{Names}
use Rattle.stream_run.specs.Unwritten.{IsUnwritten}
use Rattle.stream_turns.specs.declared.inputs.StreamInputs.{StreamInputs}
use Rattle.stream_turns.specs.declared.turns.Piece.{Piece}
use Rattle.stream_turns.specs.declared.turns.Piece.TheVariants as piece

-- A stream can take a turn: rows enter at a source of its job, its requests are known, and it has
-- run all rows that were read. No savepoint is due, if one is written after each `every` rows.
pub record CanTakeTurn (source : ℕ) (every : Option ℕ) (stream : Stream) (inputs : StreamInputs)
    : Type 0 where
  pub source_is : IsSourceOf (job_view stream.setup.job) source
  pub known : IsKnownTo inputs.known.requests stream
  pub fed : fed_of inputs.reader ≤ stream.start.row
  pub few : stream.start.row < MAX_ROWS
  pub none_due : IfSome every (λ rows. inputs.books.tally.unsaved < max rows 1)

-- once an input is over, all of it was read and given
abbrev pub IsDrained : Pieces → TapState → Type 0
IsDrained pieces tap = is_over pieces ≡ true → (kept_of pieces ≡ []) × IsAtEnd tap.left

-- what a read of the input gives, and what it leaves of it
pub record GivesPiece (before after : TapState) (old new : Pieces) (given : List ℕ) : Type 0 where
  pub gathered : Gathers before.left after.left (kept_of old) given (kept_of new)
  pub whole : IsDrained old before → IsDrained new after

-- why an input isn't read on: a read failed, or a record is too long
abbrev pub IsUnreadable : Pieces → ℕ → ℕ → Fault → Type 0
IsUnreadable pieces before after why =
    (why ≡ fault.Read file.Payments) × Rose before after
    ⊎ (why ≡ fault.Long file.Payments) × (after ≡ before)
    × (length (kept_of pieces) ≡ MAX_RECORD) × IsUncut default_config (kept_of pieces)

-- what a read of the input gives: a piece that is cut between records, unless it is the last; the
-- end of the input; or why it isn't read on
abbrev pub IsPiece : TapState → TapState → Pieces → Pieces → Piece → Type 0
IsPiece before after old new (piece.Bytes bytes) =
    GivesPiece before after old new bytes × (is_over old ≡ false) × (0 < length bytes)
    × (is_over new ≡ false → IsCut default_config bytes) × (after.faults ≡ before.faults)
IsPiece before after old new piece.End =
    GivesPiece before after old new [] × (is_over new ≡ true) × (after.faults ≡ before.faults)
IsPiece before after old new (piece.Fault why) =
    GivesPiece before after old new [] × (is_over new ≡ is_over old)
    × IsUnreadable new before.faults after.faults why

-- Why a stream is given up: memory ran out, or a write to one of its files failed, whatever reads
-- had failed before.
abbrev pub IsGivenUp : Names → Faults → Faults → Fault → Type 0
IsGivenUp names old new why =
    (mid : Faults) × (mid.writes ≡ old.writes) × IsUnwritten names mid new why
