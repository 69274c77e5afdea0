use Rattle.std.proofs.Common.{◌<◌, ◌++◌, ◌∷◌, ◌∙◌, ℕ, [], List, ap, arith, length, subst, sym}
use Rattle.std.specs.Prelude.{slice_set}
use Rattle.jobs.specs.Job.{job_view}
use Rattle.operators.specs.declared.output.Output.{Output}
use Rattle.sink_journal.specs.declared.journal.Entry.{Entry}
use Rattle.sink_journal.specs.declared.journal.Entry.TheVariants.{Met}
use Rattle.flow_model.specs.Replay.{after}
use Rattle.flow_model.specs.Setup.{setup_view}
use Rattle.flow_model.specs.WorkerState.{IsWorkerAt}
use Rattle.flow_model.specs.Workers.{nth_worker}
use Rattle.flow_model.proofs.WorkerPlaces.{worker_at}
use Rattle.flow_replay.specs.declared.worker_run.WorkerRun.{WorkerRun}
use Rattle.flow_replay.specs.inner.Runs.{IsStep, made_at, run_at, run_view}
use Rattle.flow_replay.proofs.DeliveryLemmas.{read_lane}
use Rattle.flow_replay.proofs.ExecutorLemmas.{run_is, step_set}
use Rattle.flow_replay.proofs.executor.Executor.process.Goals as goal

pub returns-clause-step : goal.returns-clause-step
returns-clause-step c =
    let setup = setup_view c.args.self.now.setup.now in
    let job = job_view c.args.self.now.setup.now.job in
    let runs = c.args.self.now.runs.items in
    let w = c.lane-worker.result.receiver in
    let who = nth_worker job w in
    let entry : Entry = Met c.args.lane c.args.tuple in
    let received =
    (read_lane job c.args.lane c.lane-worker.result c.lane-worker.ensures.lane).1 in
    let lt : w < length runs =
    omega (arith, c.lane-worker.ensures.receiver, c.args.self.now.one_each) in
    let same = run_is runs w c.index_mut-run.result.now lt c.index_mut-run.ensures.value in
    let at : IsWorkerAt job c.worker_at-at.result who = record {
      there = (worker_at job w c.lane-worker.ensures.receiver).1.there;
      at_is = c.worker_at-at.ensures.at;
    } in
    let new : WorkerRun = record { journal = c.push.new.self; state = c.process.new.self } in
    subst (λ (v : ℕ). IsStep setup v entry runs (slice_set runs w new)) received
    (step_set setup w entry runs new lt
    (c.in_ok-push.ensures.ok ∙ ap (λ (r : WorkerRun). r.journal ++ entry ∷ []) (sym same))
    (c.in_ok-process.ensures.state who at c.args.lane
    ∙ ap (λ (r : WorkerRun). after setup who (run_view setup who r) entry) (sym same)))

pub returns-clause-outs : goal.returns-clause-outs
returns-clause-outs c =
    let setup = setup_view c.args.self.now.setup.now in
    let job = job_view c.args.self.now.setup.now.job in
    let runs = c.args.self.now.runs.items in
    let w = c.lane-worker.result.receiver in
    let who = nth_worker job w in
    let run = c.index_mut-run.result.now in
    let received =
    (read_lane job c.args.lane c.lane-worker.result c.lane-worker.ensures.lane).1 in
    let lt : w < length runs =
    omega (arith, c.lane-worker.ensures.receiver, c.args.self.now.one_each) in
    let same = run_is runs w run lt c.index_mut-run.ensures.value in
    let at : IsWorkerAt job c.worker_at-at.result who = record {
      there = (worker_at job w c.lane-worker.ensures.receiver).1.there;
      at_is = c.worker_at-at.ensures.at;
    } in
    c.in_ok-process.ensures.outs who at
    ∙ (ap (λ (o : List Output). o ++ made_at setup who run c.args.tuple) c.new-outs.ensures
    ∙ (ap (λ (r : WorkerRun). made_at setup who r c.args.tuple) (sym same)
    ∙ ap (λ (v : ℕ). made_at setup (nth_worker job v) (run_at runs v) c.args.tuple) received))
