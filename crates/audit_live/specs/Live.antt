-- What a live run is: its requests wait for the rows after which they were issued.
use Rattle.std.specs.Prelude.{List, length}
use Rattle.tuple_trace.specs.declared.row.Row.{Row}
use Rattle.flow_model.specs.Run.{IsRun, Ran}
use Rattle.flow_model.specs.SetupView.{SetupView}
use Rattle.flow_model.specs.Waiting.{waiting_for, with_afters}
use Rattle.coordinator.specs.Feeding.{issue_rows}
use Rattle.flow_engine.specs.Recorded.{NoneIsEarly}

-- What was left is a run of these rows in which each request of the setup waits for the number of
-- rows that were fed before it was issued. No request waits for fewer than it asks for, of those
-- that there are.
pub record IsRunLive (setup : SetupView) (rows : List Row) (ran : Ran) : Type 0 where
  pub run : IsRun (waiting_for (issue_rows 0 ran.feeds) setup) rows ran
  pub not_early :
      NoneIsEarly (length rows) setup.requests
      (with_afters (issue_rows 0 ran.feeds) setup.requests)
