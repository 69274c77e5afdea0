-- How the files of a stream grow.
use Rattle.std.specs.Prelude.{◌≡◌, ◌⊎◌, ◌+◌, ◌++◌, ℕ, List, [], ◌∷◌, Option}
use Rattle.std.specs.Prelude.{length}
use Rattle.std.specs.List.{flat_map}
use Rattle.flow_model.specs.Begin.{at_first}
use Rattle.flow_model.specs.Run.{Ran}
use Rattle.jobs.specs.Job.{job_view}
use Rattle.payments.specs.Files.{Files, with_bytes}
use Rattle.payments.specs.Growing.{with_text}
use Rattle.sink_journal.specs.declared.audit.Noted.{Noted}
use Rattle.tuple_trace.specs.declared.row.Row.{Row}
use Rattle.fries_lines.specs.Lines.{alert_count}
use Rattle.stream_run.specs.Files.{GrowInTurn, alerts_text, audit_text}
use Rattle.stream_step.specs.declared.stream.Stream.{Stream}
use Rattle.stream_run.specs.Parts.{HaveRun, Part}
use Rattle.stream_run.specs.declared.books.Books.{Books}
use Rattle.stream_run.specs.declared.books.Tally.{Tally}

-- The names of the files of a stream: that of its requests, and those that it writes.
pub record Names : Type 0 where
  pub requests : List ℕ
  pub alerts : List ℕ
  pub audit : List ℕ
  pub save : List ℕ

-- the record without counts
abbrev pub without_counts : Ran → Ran
without_counts ran = record ran { states = (at_first ran.setup).states }

-- A part that has ended, and the requests that were refused since the end before.
pub record Ended : Type 0 where
  pub refused : List Noted
  pub part : Part

-- what is written of a part: its alerts, and then its audit without counts
abbrev pub with_ended : Names → Option Files → Ended → Option Files
with_ended names files ended =
    with_text (with_text files names.alerts (alerts_text ended.part.left)) names.audit
    (audit_text ended.refused (without_counts ended.part.left))

-- What a stream writes in turn.
pub data Written : Type 0 where
  -- the texts of a part that has ended
  End : Ended → Written
  -- the text of a savepoint
  Save : List ℕ → Written

-- the files once one of this is written
abbrev pub with_written : Names → Option Files → Written → Option Files
with_written names files (End ended) = with_ended names files ended
with_written names files (Save text) = with_bytes files names.save text

-- the files once all of this is written
abbrev pub with_all_written : Names → Option Files → List Written → Option Files
with_all_written names files [] = files
with_all_written names files (first ∷ later) =
    with_all_written names (with_written names files first) later

-- the part that is written, if it is one
abbrev pub part_in : Written → List Part
part_in (End ended) = ended.part ∷ []
part_in (Save text) = []

-- the parts that are written
abbrev pub parts_in : List Written → List Part
parts_in written = flat_map part_in written

-- the refused requests that its audit tells, if it is a part
abbrev pub told_in : Written → List Noted
told_in (End ended) = ended.refused
told_in (Save text) = []

-- the rows of these parts
abbrev pub rows_in : List Part → List Row
rows_in parts = flat_map (λ (part : Part). part.rows) parts

-- From the first stream and these files, a stream has come to the second and those files: the rows
-- were run in parts, each from where the one before it has ended, and each part was written once it
-- had ended. Its job stays, and so do the nodes that may be splits, and whether it is exact.
pub record Goes (names : Names) (rows : List Row) (old : Stream) (before : Option Files)
    (new : Stream) (after : Option Files) : Type 0 where
  pub written : List Written
  pub rows_are : rows_in (parts_in written) ≡ rows
  pub have_run : HaveRun old (parts_in written) new
  pub files_are : after ≡ with_all_written names before written
  pub job_is : job_view new.setup.job ≡ job_view old.setup.job
  pub splits_are : new.setup.splits ≡ old.setup.splits
  pub exact_is : new.exact ≡ old.exact

-- ---- the books

-- the counts once one of this is written
abbrev pub counts_once_written : Tally → Written → Tally
counts_once_written tally (End ended) = record {
  alerts = tally.alerts + length (alerts_text ended.part.left);
  audit = tally.audit + length (audit_text ended.refused (without_counts ended.part.left));
  unsaved = tally.unsaved + length ended.part.rows;
  shown = tally.shown + alert_count ended.part.left.setup.job.nodes ended.part.left.journals;
}
counts_once_written tally (Save text) = record tally { unsaved = 0 }

-- the counts once all of this is written
abbrev pub all_counted : Tally → List Written → Tally
all_counted tally [] = tally
all_counted tally (first ∷ later) = all_counted (counts_once_written tally first) later

-- the refused requests that the audits of the written parts tell
abbrev pub refused_in : List Written → List Noted
refused_in written = flat_map told_in written

-- The books count all that was written. The requests that they had as refused are told in it, and
-- then they have the others.
pub record IsBooked (written : List Written) (old new : Books) : Type 0 where
  pub tally : new.tally ≡ all_counted old.tally written
  pub told : refused_in written ++ new.refused.items ≡ old.refused.items

-- one part was written, and nothing else
abbrev pub IsOnePart : List Written → Type 0
IsOnePart written = (ended : Ended) × (written ≡ End ended ∷ [])

-- ---- a stream that stops

-- A part that was run after all that the stream wrote. Of its texts the files have the first bytes:
-- first of its alerts, and then of its audit.
pub record StopsIn (names : Names) (last : Stream) (files after : Option Files) : Type 0 where
  pub ended : Ended
  pub next : Stream
  pub have_run : HaveRun last (ended.part ∷ []) next
  pub grow : GrowInTurn files after names.alerts (alerts_text ended.part.left) names.audit
      (audit_text ended.refused (without_counts ended.part.left))

-- From the first stream and these files, a stream went on for some parts, and then it stopped:
-- between two parts, or while a part was written.
pub record GoesAndStops (names : Names) (old : Stream) (before after : Option Files) : Type 0 where
  pub last : Stream
  pub files : Option Files
  pub rows : List Row
  pub goes : Goes names rows old before last files
  pub stops : (after ≡ files) ⊎ StopsIn names last files after
