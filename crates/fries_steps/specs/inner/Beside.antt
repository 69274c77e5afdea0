-- What the engine leaves that ran beside a reader.
use Rattle.std.specs.Prelude.{true, List, length}
use Rattle.sink_journal.specs.declared.journal.Feed.{Feed}
use Rattle.tuple_trace.specs.declared.row.Row.{Row}
use Rattle.flow_model.specs.Run.{IsRun}
use Rattle.flow_model.specs.Setup.{setup_view}
use Rattle.flow_model.specs.declared.setup.Setup.{Setup}
use Rattle.flow_worker.specs.Parts.{WorkedIs}
use Rattle.flow_crew.specs.Ended.{record_of}
use Rattle.flow_engine.specs.Recorded.{IsRecorded, NoneIsEarly}
use Rattle.live_control.specs.Kept.{IsKept}
use Rattle.live_control.specs.Line.{InboxIs}

-- what the engine leaves of a setup and an inbox, under which it ran live
pub record IsFlownLive (asked : Setup) (inbox : InboxIs) (rows : List Row) (setup : Setup)
    (feeds : List Feed) (crew : List WorkedIs) (rest : InboxIs) : Type 0 where
  pub recorded : IsRecorded true feeds asked setup
  pub not_early :
      NoneIsEarly (length rows) (setup_view asked).requests (setup_view setup).requests
  pub run : IsRun (setup_view setup) rows (record_of (setup_view setup) feeds crew)
  pub kept : IsKept inbox feeds rest
