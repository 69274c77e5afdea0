-- What stands in the files of a stream between two parts.
use Rattle.std.specs.Prelude.{◌≡◌, ℕ, List, IfSome, Option, None, Some, map}
use Rattle.jobs.specs.Job.{job_view}
use Rattle.flow_model.specs.Begin.{at_first}
use Rattle.flow_model.specs.Requests.{afters}
use Rattle.flow_model.specs.Setup.{setup_view}
use Rattle.payments.specs.Files.{Files, told_bytes}
use Rattle.sink_journal.specs.Alerts.{header}
use Rattle.sink_journal.specs.Audit.{audit_header}
use Rattle.sink_journal.specs.Records.{record_text}
use Rattle.tuple_trace.specs.declared.row.Row.{Row}
use Rattle.stream_save.specs.StreamText.{stream_save_text}
use Rattle.stream_step.specs.declared.stream.Stream.{Stream}
use Rattle.stream_run.specs.Growing.{Goes, Names}

-- a file, if it is told, holds just this text
abbrev pub FileHolds : Option Files → List ℕ → List ℕ → Type 0
FileHolds files name text = IfSome (told_bytes files name) (λ bytes. bytes ≡ text)

-- Nothing was run before, and both files hold their headers alone.
pub record IsNew (names : Names) (begin : Stream) (files : Option Files) : Type 0 where
  pub first : begin.start ≡ at_first (setup_view begin.setup)
  pub alerts : FileHolds files names.alerts (record_text (header begin.setup.job.columns))
  pub audit : FileHolds files names.audit (record_text audit_header)

-- where a call began: anew, or behind this row
abbrev pub Begins : Option ℕ → Names → Stream → Option Files → Type 0
Begins None names begin files = IsNew names begin files
Begins (Some row) names begin files = begin.start.row ≡ row

-- A stream that began anew, or behind this row, has come to where it goes on. The files hold the
-- texts of all parts since, each of which was run, in turn.
pub record Stands (behind : Option ℕ) (names : Names) (stream : Stream) (files : Option Files)
    : Type 0 where
  pub begin : Stream
  pub before : Option Files
  pub begins : Begins behind names begin before
  pub rows : List Row
  pub goes : Goes names rows begin before stream files

-- what SAVE tells of a stream whose files count up to these lengths in bytes
abbrev pub saved_text : Stream → ℕ → ℕ → ℕ → List ℕ
saved_text stream read alerts audit =
    stream_save_text (job_view stream.setup.job)
    (record {
      start = stream.start;
      read = read;
      waits = afters stream.setup.judged.accepted;
      alerts = alerts;
      audit = audit;
    })
