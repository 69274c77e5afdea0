-- What an executor keeps from step to step.
use Rattle.std.proofs.Common.{◌≡◌, ◌<◌, ◌++◌, ◌∷◌, ◌∙◌, ℕ, [], List, Option, Some, ap, get_or-set_other, get_or-set_same, length, length-set, subst, sym}
use Rattle.std.specs.Prelude.{slice_get, slice_index_or, slice_set}
use Rattle.std.proofs.lemmas.Option.{get_or_from_slice_get, slice_get-get_or}
use Rattle.jobs.specs.Job.{job_view}
use Rattle.sink_journal.specs.declared.journal.Entry.{Entry}
use Rattle.tuple_trace.specs.declared.tuple.Tuple.{Tuple}
use Rattle.flow_model.specs.Lanes.{lane_of, senders}
use Rattle.flow_model.specs.SetupView.{SetupView}
use Rattle.flow_model.specs.Replay.{after}
use Rattle.flow_model.specs.Topology.{IsNumberOf}
use Rattle.flow_model.specs.Workers.{nth_worker}
use Rattle.flow_model.specs.declared.setup.Setup.{Setup}
use Rattle.flow_model.specs.declared.topology.WorkerAt.{WorkerAt}
use Rattle.flow_replay.specs.declared.executor.Executor.{Executor}
use Rattle.flow_replay.specs.declared.worker_run.WorkerRun.{WorkerRun}
use Rattle.flow_replay.specs.inner.Executor.{SameBesideRuns}
use Rattle.flow_replay.specs.inner.Runs.{IsStep, empty_run, journal_at, run_at, run_view}

pub same_both : (old mid new : Executor) → SameBesideRuns old mid → SameBesideRuns mid new →
    SameBesideRuns old new
same_both old mid new a b = record {
  setup_is = b.setup_is ∙ a.setup_is;
  feeds_are = b.feeds_are ∙ a.feeds_are;
  issued_is = b.issued_is ∙ a.issued_is;
}

-- the worker that the code reads is the one at its number
pub run_is : (runs : List WorkerRun) (w : ℕ) (run : WorkerRun) → w < length runs →
    run ≡ slice_index_or runs w run → run_at runs w ≡ run
run_is runs w run lt is =
    get_or_from_slice_get runs w run empty_run
    (slice_get-get_or runs w run lt ∙ ap Some (sym is))

-- one worker gains an entry
pub step_set : (setup : SetupView) (w : ℕ) (entry : Entry) (runs : List WorkerRun)
    (new : WorkerRun) → w < length runs → new.journal ≡ journal_at runs w ++ entry ∷ [] →
    run_view setup (nth_worker setup.job w) new
    ≡ after setup (nth_worker setup.job w)
    (run_view setup (nth_worker setup.job w) (run_at runs w)) entry →
    IsStep setup w entry runs (slice_set runs w new)
step_set setup w entry runs new lt journal view =
    let here : run_at (slice_set runs w new) w ≡ new = get_or-set_same runs w new empty_run lt in
    record {
      long = length-set runs w new;
      journal = ap (λ (r : WorkerRun). r.journal) here ∙ journal;
      view = ap (run_view setup (nth_worker setup.job w)) here ∙ view;
      others = λ v other. get_or-set_other runs w v new empty_run other;
    }

-- a route by an equal setup
pub along_is : (now setup : Setup) (at : WorkerAt) (w next port : ℕ) (tuple : Tuple) →
    now ≡ setup → slice_get (senders (job_view setup.job) at.node) at.place ≡ Some (Some w) →
    ((from : Option ℕ) → slice_get (senders (job_view now.job) at.node) at.place ≡ Some from →
    IsNumberOf (job_view now.job) (lane_of (job_view now.job) from at.node port tuple) next) →
    IsNumberOf (job_view setup.job) (lane_of (job_view setup.job) (Some w) at.node port tuple) next
along_is now setup at w next port tuple same sends some =
    subst (λ (s : Setup). (from : Option ℕ) →
    slice_get (senders (job_view s.job) at.node) at.place ≡ Some from →
    IsNumberOf (job_view s.job) (lane_of (job_view s.job) from at.node port tuple) next) same some
    (Some w) sends
