-- What a run of the judged requests is.
use Rattle.std.proofs.Common.{◌≡◌, ◌∙◌, ℕ, Bool, List, length, ap, subst, sym}
use Rattle.std.specs.Prelude.{IsTrue}
use Rattle.jobs.specs.Nodes.{AreFromSources, worker_count}
use Rattle.jobs.specs.JobView.{JobView}
use Rattle.sink_journal.specs.declared.journal.Feed.{Feed}
use Rattle.tuple_trace.specs.declared.row.Row.{Row}
use Rattle.versions.specs.declared.request.Request.{Request}
use Rattle.flow_model.specs.Consistent.{IsConsistent}
use Rattle.flow_model.specs.OneTable.{HasNoCounts}
use Rattle.flow_model.specs.Record.{record_view}
use Rattle.flow_model.specs.Run.{IsRun, Ran}
use Rattle.flow_model.specs.Serial.{IsSerial, SeesPrefix, serial}
use Rattle.flow_model.specs.Setup.{setup_view}
use Rattle.flow_model.specs.declared.record.RunRecord.{RunRecord}
use Rattle.flow_model.specs.declared.setup.Setup.{Setup}
use Rattle.flow_model.proofs.WorkerListLemmas.{length-workers_from}
use Rattle.flow_worker.specs.Parts.{WorkedIs}
use Rattle.flow_crew.specs.Ended.{record_of as ended}
use Rattle.flow_engine.specs.Flown.{flown_record}
use Rattle.serial_order.specs.Serials.{serials}
use Rattle.fries_steps.specs.SetupFor.{IsSetupFor}
use Rattle.fries_steps.specs.Running.{IsDoneOf, IsRunOf, IsRunUnder}
use Rattle.fries_steps.specs.declared.running.Done.{Done}

-- what the laws of runs say of each run of a setup
pub record HasLaws (setup : Setup) (rows : List Row) : Type 0 where
  pub consistent : (ran : Ran) → IsRun (setup_view setup) rows ran → AreFromSources (setup_view setup).job rows → IsConsistent rows ran
  pub prefix : (ran : Ran) → IsRun (setup_view setup) rows ran → IsTrue (setup_view setup).ordered → (row : ℕ) → SeesPrefix ran row (serial ran row)
  pub serial : (ran : Ran) → IsRun (setup_view setup) rows ran → IsTrue (setup_view setup).ordered → HasNoCounts (setup_view setup).job → AreFromSources (setup_view setup).job rows → IsSerial rows ran

-- a run of such a setup is what was run
pub is_run_under : (IsFor : Setup → Type 0) (requests : List Request) (rows : List Row)
    (setup : Setup) (ran : RunRecord) (done : Done) → IsFor setup → HasLaws setup rows →
    AreFromSources (setup_view setup).job rows → ran.setup ≡ setup →
    IsRun (setup_view setup) rows (record_view ran) → IsDoneOf ran requests rows done →
    IsRunUnder IsFor requests rows done
is_run_under IsFor requests rows setup ran done is laws from same run of =
    let kept : done.ran.setup ≡ setup = ap (λ (r : RunRecord). r.setup) of.ran_is ∙ same in
    let ran_so : IsRun (setup_view setup) rows (record_view done.ran) = subst (λ (r : RunRecord). IsRun (setup_view setup) rows (record_view r)) (sym of.ran_is) run in
    record {
      setup = subst IsFor (sym kept) is;
      run = subst (λ (s : Setup). IsRun (setup_view s) rows (record_view done.ran)) (sym kept) ran_so;
      consistent = laws.consistent (record_view done.ran) ran_so from;
      one_order = λ mode.
          let ordered = subst (λ (s : Setup). IsTrue s.ordered) kept mode in
          record {
            prefix = laws.prefix (record_view done.ran) ran_so ordered;
            alone = λ none. laws.serial (record_view done.ran) ran_so ordered (subst (λ (s : Setup). HasNoCounts (setup_view s).job) kept none) from;
          };
      numbers = λ mode. subst (λ (r : RunRecord). done.serial ≡ serials (record_view r) rows) (sym of.ran_is) (of.numbers (subst (λ (r : RunRecord). IsTrue r.setup.ordered) of.ran_is mode));
      refused = of.refused ∙ ap (λ (r : RunRecord). r.setup.judged.refused) (sym of.ran_is);
      count = of.count;
    }

-- a run of the setup of a job and its requests is a run of these
pub is_run_of : (Keeps : List Request → List Request → Type 0) (ordered : Bool) (job : JobView)
    (requests : List Request) (rows : List Row) (setup : Setup) (ran : RunRecord) (done : Done)
    → IsSetupFor Keeps ordered job requests setup → HasLaws setup rows → AreFromSources job rows
    → ran.setup ≡ setup → IsRun (setup_view setup) rows (record_view ran)
    → IsDoneOf ran requests rows done → IsRunOf Keeps ordered job requests rows done
is_run_of Keeps ordered job requests rows setup ran done is laws sources same run of =
    is_run_under (IsSetupFor Keeps ordered job requests) requests rows setup ran done is laws
    (subst (λ (j : JobView). AreFromSources j rows) (sym is.job_is) sources) same run of

-- it has a journal for each worker of the job
pub journals_of : (setup : Setup) (requests : List Request) (rows : List Row) (ran : RunRecord) (done : Done) → IsRun (setup_view setup) rows (record_view ran) → IsDoneOf ran requests rows done
    → length done.ran.journals ≡ worker_count done.ran.setup.job.nodes
journals_of setup requests rows ran done run of =
    subst (λ (r : RunRecord). length r.journals ≡ worker_count r.setup.job.nodes) (sym of.ran_is)
    (run.run.one_journal_each ∙ length-workers_from 0 0 ran.setup.job.nodes)

-- and the counts of each worker
pub states_of : (setup : Setup) (requests : List Request) (rows : List Row) (ran : RunRecord) (done : Done) → IsRun (setup_view setup) rows (record_view ran) → IsDoneOf ran requests rows done
    → length done.ran.states ≡ worker_count done.ran.setup.job.nodes
states_of setup requests rows ran done run of =
    subst (λ (r : RunRecord). length r.states ≡ worker_count r.setup.job.nodes) (sym of.ran_is)
    (run.run.one_state_each ∙ length-workers_from 0 0 ran.setup.job.nodes)

-- the record of what a run on threads left is that of a run
pub run_so : (setup left : Setup) (rows : List Row) (feeds : List Feed) (crew : List WorkedIs) (ran : RunRecord) → left ≡ setup → IsRun (setup_view setup) rows (ended (setup_view setup) feeds crew)
    → ran ≡ flown_record left feeds crew → IsRun (setup_view setup) rows (record_view ran)
run_so setup left rows feeds crew ran same run is =
    subst (λ (r : RunRecord). IsRun (setup_view setup) rows (record_view r)) (sym is) (subst (λ (s : Setup). IsRun (setup_view setup) rows (ended (setup_view s) feeds crew)) (sym same) run)
