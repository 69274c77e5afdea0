-- A stream from its beginning to its end, and what its audit tells.
use Rattle.std.specs.Prelude.{◌≡◌, ◌++◌, List, [], None, length, map}
use Rattle.std.specs.List.{flat_map}
use Rattle.audit_laws.specs.Part.{uncounted}
use Rattle.flow_engine.specs.Recorded.{NoneIsEarly}
use Rattle.flow_model.specs.Begin.{at_first}
use Rattle.flow_model.specs.Requests.{afters}
use Rattle.flow_model.specs.Setup.{setup_view}
use Rattle.flow_model.specs.SetupView.{SetupView}
use Rattle.flow_model.specs.Waiting.{waiting_for}
use Rattle.flow_model.specs.declared.setup.Setup.{Setup}
use Rattle.fries_lines.specs.Lines.{noted}
use Rattle.sink_journal.specs.Audit.{audit_records}
use Rattle.sink_journal.specs.declared.audit.Noted.{Noted}
use Rattle.stream_law.specs.Stream.{IsRunSoFar, SoFar}
use Rattle.stream_replay.specs.InParts.{Records}
use Rattle.stream_run.specs.Growing.{Ended, rows_in}
use Rattle.stream_run.specs.Parts.{HaveRun, Part, with_all, with_one}
use Rattle.stream_step.specs.Parts.{IsRunOn}
use Rattle.stream_step.specs.declared.stream.Stream.{Stream}
use Rattle.tuple_trace.specs.declared.row.Row.{Row}
use Rattle.versions.specs.declared.request.Request.{Request}

-- ---- a stream

-- A stream with its beginning, the parts that have ended, where it went on then, and the last part,
-- each with the requests that were refused since the end before.
pub record WholeStream : Type 0 where
  pub begin : Stream
  pub ended : List Ended
  pub stream : Stream
  pub last : Ended

-- the parts that have ended
abbrev pub ended_parts : List Ended → List Part
ended_parts ended = map (λ (ended : Ended). ended.part) ended

-- the requests that were refused before they ended
abbrev pub ended_refused : List Ended → List Noted
ended_refused ended = flat_map (λ (ended : Ended). ended.refused) ended

-- what was run in all
abbrev pub run_of : WholeStream → SoFar
run_of whole = with_one (with_all None (ended_parts whole.ended)) whole.last.part

-- the setup to which it has come, with all requests as they were issued
abbrev pub setup_of : WholeStream → SetupView
setup_of whole = setup_view whole.last.part.setup

-- The stream has run these rows in parts, from its beginning on. The last part has none, and issued
-- these requests. All of it is one run.
pub record IsWholeStream (rows : List Row) (whole : WholeStream) : Type 0 where
  pub first : whole.begin.start ≡ at_first (setup_view whole.begin.setup)
  pub none : whole.begin.setup.judged.accepted ≡ []
  pub have_run : HaveRun whole.begin (ended_parts whole.ended) whole.stream
  pub rows_are : rows_in (ended_parts whole.ended) ≡ rows
  pub requests : List Request
  pub others : List Row
  pub last : IsRunOn whole.stream requests others whole.last.part.setup whole.last.part.left
  pub as_many : length others ≡ whole.stream.start.row
  pub no_row : whole.last.part.rows ≡ []
  pub one_run : IsRunSoFar (run_of whole)

-- ---- its requests

-- The setup has the stream's requests, as they were asked. None was issued before the row that it
-- asks for, of those that there are. Judging refused those that the stream refused.
pub record IsAskedOf (setup : Setup) (rows : List Row) (whole : WholeStream) : Type 0 where
  pub asked : setup_view setup ≡ waiting_for (afters setup.judged.accepted) (setup_of whole)
  pub not_early : NoneIsEarly (length rows) setup.judged.accepted (setup_of whole).requests
  pub refused : ended_refused whole.ended ++ whole.last.refused ≡ map noted setup.judged.refused

-- ---- its audit

-- the records of a part that has ended; they tell no counts
abbrev pub ended_records : Ended → Records
ended_records ended = audit_records ended.part.left.setup.job ended.refused ended.part.left.feeds
    ended.part.left.journals (uncounted ended.part.left).states

-- those of the last part
abbrev pub last_records : Ended → Records
last_records ended = audit_records ended.part.left.setup.job ended.refused ended.part.left.feeds
    ended.part.left.journals ended.part.left.states

-- the records after the header
abbrev pub whole_records : WholeStream → Records
whole_records whole = flat_map ended_records whole.ended ++ last_records whole.last
