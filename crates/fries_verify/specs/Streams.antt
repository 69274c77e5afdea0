-- A stream that was run in parts, and what its audit tells.
use Rattle.std.specs.Prelude.{◌≡◌, ◌++◌, List, [], ◌∷◌, drop, map, slice_range}
use Rattle.coordinator.specs.Feeding.{issue_rows}
use Rattle.flow_model.specs.Run.{IsRunSince, Ran}
use Rattle.flow_model.specs.Setup.{setup_view}
use Rattle.flow_model.specs.Waiting.{waiting_for}
use Rattle.flow_model.specs.declared.setup.Setup.{Setup}
use Rattle.jobs.specs.JobView.{JobView}
use Rattle.audit_laws.specs.Part.{uncounted}
use Rattle.fries_lines.specs.Lines.{noted}
use Rattle.sink_journal.specs.declared.audit.Noted.{Noted}
use Rattle.audit_stream.specs.Told.{PartTold, part_records, parts_records, told_in_all}
use Rattle.stream_replay.specs.InParts.{Given, PartStart, Records, first_start}
use Rattle.stream_replay.specs.Runs.{PartEnd, RunInTurn, start_past, start_past_all}
use Rattle.tuple_trace.specs.declared.row.Row.{Row}

-- what an audit tells of a run
abbrev pub told_of : List Noted → Ran → PartTold
told_of refused ran = record {
  refused = refused;
  feeds = ran.feeds;
  journals = ran.journals;
  states = ran.states;
}

-- what it tells of a part from there to its end; it tells no counts
abbrev pub told_to : Given → PartStart → PartEnd → PartTold
told_to given start end =
    told_of (slice_range given.refused start.told end.told) (uncounted end.left)

-- what it tells of parts that were run in turn
abbrev pub told_in_turn : Given → PartStart → List PartEnd → List PartTold
told_in_turn given start [] = []
told_in_turn given start (end ∷ later) =
    told_to given start end ∷ told_in_turn given (start_past end) later

-- what it tells of the last part, which left this
abbrev pub told_last : Given → PartStart → Ran → PartTold
told_last given start left = told_of (drop start.told given.refused) left

-- the records of all parts, one part after another
abbrev pub told_records : JobView → Given → List PartEnd → Ran → Records
told_records job given ends left =
    parts_records job (told_in_turn given (first_start given) ends)
    ++ part_records job (told_last given (start_past_all (first_start given) ends) left)

-- what the parts of a stream are of that is this run: each request waits for the rows that were fed
-- before it was issued
abbrev pub given_live : Setup → List Row → Ran → Given
given_live setup rows ran = record {
  setup = waiting_for (issue_rows 0 ran.feeds) (setup_view setup);
  refused = map noted setup.judged.refused;
  rows = rows;
}

-- The parts with these ends, and the last one, were run in turn, each from where the one before it
-- has ended. As one run they are this one.
pub record IsStreamOf (given : Given) (ends : List PartEnd) (left ran : Ran) : Type 0 where
  pub in_turn : RunInTurn given (first_start given) ends
  pub last : IsRunSince (start_past_all (first_start given) ends).begin given.setup given.rows left
  pub as_one : told_in_all (told_in_turn given (first_start given) ends)
      (told_last given (start_past_all (first_start given) ends) left) ≡ told_of given.refused ran
