-- What is said of the record of a run on threads.
use Rattle.std.proofs.Common.{◌≡◌, List, subst, sym}
use Rattle.sink_journal.specs.declared.journal.Feed.{Feed}
use Rattle.tuple_trace.specs.declared.row.Row.{Row}
use Rattle.flow_model.specs.Begin.{Begin}
use Rattle.flow_model.specs.Record.{record_view}
use Rattle.flow_model.specs.Run.{IsRunSince}
use Rattle.flow_model.specs.Setup.{setup_view}
use Rattle.flow_model.specs.declared.record.RunRecord.{RunRecord}
use Rattle.flow_model.specs.declared.setup.Setup.{Setup}
use Rattle.flow_worker.specs.Parts.{WorkedIs}
use Rattle.flow_crew.specs.Ended.{record_of as ended}
use Rattle.flow_engine.specs.Flown.{flown_record}

-- the record of what a run on threads left is that of a run from there
pub run_since : (start : Begin) (setup left : Setup) (rows : List Row) (feeds : List Feed)
    (crew : List WorkedIs) (ran : RunRecord) → left ≡ setup
    → IsRunSince start (setup_view setup) rows (ended (setup_view setup) feeds crew)
    → ran ≡ flown_record left feeds crew
    → IsRunSince start (setup_view setup) rows (record_view ran)
run_since start setup left rows feeds crew ran same run is =
    subst (λ (r : RunRecord). IsRunSince start (setup_view setup) rows (record_view r)) (sym is)
    (subst (λ (s : Setup). IsRunSince start (setup_view setup) rows
    (ended (setup_view s) feeds crew)) (sym same) run)
