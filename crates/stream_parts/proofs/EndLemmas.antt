-- What an engine leaves of the last part.
use Rattle.std.proofs.Common.{◌≡◌, ◌∙◌, ◌++◌, ℕ, List, [], Option, ap, append-nil, arith, length}
use Rattle.std.proofs.Common.{map, subst, sym}
use Rattle.jobs.specs.Job.{job_view}
use Rattle.jobs.specs.JobView.{JobView}
use Rattle.jobs.specs.Nodes.{AreFromSources, IsSourceOf, worker_count}
use Rattle.sink_journal.specs.declared.journal.Feed.{Feed}
use Rattle.tuple_trace.specs.FeedRows.{blanks}
use Rattle.tuple_trace.specs.Rows.{AreRows}
use Rattle.tuple_trace.specs.declared.row.Row.{Row}
use Rattle.payments.specs.Files.{Files}
use Rattle.flow_model.specs.Planned.{IsFollowed}
use Rattle.flow_model.specs.Record.{record_view}
use Rattle.flow_model.specs.Run.{IsRunSince}
use Rattle.flow_model.specs.Setup.{setup_view}
use Rattle.flow_model.specs.declared.record.RunRecord.{RunRecord}
use Rattle.flow_model.specs.declared.setup.Setup.{Setup}
use Rattle.flow_model.proofs.WorkerListLemmas.{length-workers_from}
use Rattle.flow_worker.specs.Parts.{WorkedIs}
use Rattle.flow_crew.specs.Ended.{record_of as ended}
use Rattle.flow_engine.specs.Flown.{flown_record}
use Rattle.stream_step.specs.Parts.{IsRunOn}
use Rattle.stream_step.specs.Pending.{lifted}
use Rattle.flow_engine.proofs.FlownLemmas.{run_since}
use Rattle.stream_step.specs.declared.stream.Stream.{Stream}
use Rattle.stream_run.specs.Files.{GrowInTurn}
use Rattle.stream_run.specs.Growing.{Names}
use Rattle.stream_run.proofs.PartLemmas.{sources_fed}
use Rattle.stream_run.proofs.PartRunLemmas.{run_on}

-- blank rows are from their source
pub sources_blank : (job : JobView) (source row : ℕ) → IsSourceOf job source
    → AreFromSources job (blanks source row)
sources_blank job source row is =
    subst (λ (r : List Row). AreFromSources job r) (append-nil (blanks source row))
    (sources_fed job source row [] is (λ k d within. absurd (omega (arith, within))))

-- a last part that was run by an engine
module _ (stream : Stream) (source : ℕ) (setup left : Setup) (rows : List Row) (feeds : List Feed)
    (crew : List WorkedIs) (ran : RunRecord)
    (source_is : IsSourceOf (job_view stream.setup.job) source)
    (rows_are : rows ≡ blanks source stream.start.row) (numbered : AreRows rows)
    (followed : IsFollowed (setup_view stream.setup) (map (lifted stream.start.row) stream.pending)
    (setup_view setup)) (same : left ≡ setup)
    (run : IsRunSince stream.start (setup_view setup) rows (ended (setup_view setup) feeds crew))
    (is : ran ≡ flown_record left feeds crew) where
  abbrev all : List Row
  all = blanks source stream.start.row ++ []

  rows_all : rows ≡ all
  rows_all = rows_are ∙ sym (append-nil (blanks source stream.start.row))

  since : IsRunSince stream.start (setup_view setup) rows (record_view ran)
  since = run_since stream.start setup left rows feeds crew ran same run is

  setup_is : ran.setup ≡ setup
  setup_is = ap (λ (r : RunRecord). r.setup) is ∙ same

  pub last_on : IsRunOn stream (map (lifted stream.start.row) stream.pending)
      (blanks source stream.start.row) ran.setup (record_view ran)
  last_on =
      subst (λ (r : List Row). IsRunOn stream
      (map (lifted stream.start.row) stream.pending) r ran.setup (record_view ran))
      (append-nil (blanks source stream.start.row))
      (run_on stream stream.pending source [] setup ran
      (subst (λ (r : List Row). AreRows r) rows_all numbered)
      (subst (λ (r : List Row). AreFromSources (job_view stream.setup.job) r)
      (sym (append-nil (blanks source stream.start.row)))
      (sources_blank (job_view stream.setup.job) source stream.start.row source_is)) followed
      setup_is
      (subst (λ (r : List Row). IsRunSince stream.start (setup_view setup) r (record_view ran))
      rows_all since))

  pub last_journals : length ran.journals ≡ worker_count ran.setup.job.nodes
  last_journals =
      omega (arith, since.run.one_journal_each, length-workers_from 0 0 ran.setup.job.nodes)

  pub last_states : length ran.states ≡ worker_count ran.setup.job.nodes
  last_states = omega (arith, since.run.one_state_each, length-workers_from 0 0 ran.setup.job.nodes)

-- files that grow by equal texts
pub grow-same : (names : Names) (f g : Option Files) (a b c d : List ℕ) → a ≡ b → c ≡ d
    → GrowInTurn f g names.alerts a names.audit c → GrowInTurn f g names.alerts b names.audit d
grow-same names f g a b c d first second grow =
    subst (λ (t : List ℕ). GrowInTurn f g names.alerts b names.audit t) second
    (subst (λ (t : List ℕ). GrowInTurn f g names.alerts t names.audit c) first grow)
