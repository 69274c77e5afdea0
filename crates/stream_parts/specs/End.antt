-- The last part of a stream.
use Rattle.std.specs.Prelude.{◌≡◌, ◌⊎◌, ℕ, List, Option, map}
use Rattle.tuple_trace.specs.FeedRows.{blanks}
use Rattle.sink_journal.specs.declared.audit.Noted.{Noted}
use Rattle.payments.specs.Files.{Files}
use Rattle.flow_model.specs.Run.{Ran}
use Rattle.flow_model.specs.declared.setup.Setup.{Setup}
use Rattle.stream_run.specs.Files.{GrowInTurn, alerts_text, audit_text}
use Rattle.stream_run.specs.Growing.{Names}
use Rattle.stream_step.specs.Parts.{IsRunOn}
use Rattle.stream_step.specs.Pending.{lifted}
use Rattle.stream_step.specs.declared.stream.Stream.{Stream}

-- The last part was run from where the stream goes on. It has no row, and all pending requests.
abbrev pub IsLastRun : Stream → ℕ → Setup → Ran → Type 0
IsLastRun stream source setup left =
    IsRunOn stream (map (lifted stream.start.row) stream.pending)
    (blanks source stream.start.row) setup left

-- The last part was run. Of its texts the files have the first bytes: first of its alerts, and then
-- of its audit.
pub record StopsInLast (names : Names) (refused : List Noted) (source : ℕ) (stream : Stream)
    (before after : Option Files) : Type 0 where
  pub setup : Setup
  pub left : Ran
  pub run : IsLastRun stream source setup left
  pub grow : GrowInTurn before after names.alerts (alerts_text left) names.audit
      (audit_text refused left)

-- The files are as before, or have first bytes of the texts of the last part.
abbrev pub StopsAtEnd : Names → List Noted → ℕ → Stream → Option Files → Option Files → Type 0
StopsAtEnd names refused source stream before after =
    (after ≡ before) ⊎ StopsInLast names refused source stream before after
