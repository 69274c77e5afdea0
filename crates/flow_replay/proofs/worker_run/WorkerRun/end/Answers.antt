use Rattle.jobs.specs.Job.{job_view}
use Rattle.flow_model.specs.Setup.{setup_view}
use Rattle.flow_model.specs.Workers.{nth_worker}
use Rattle.flow_replay.specs.declared.worker_run.WorkerRun.{WorkerRun}
use Rattle.flow_replay.proofs.WorkerRunLemmas.{ends-end, ends-next}
use Rattle.flow_replay.proofs.worker_run.WorkerRun.end.Goals as goal

pub loop-number-preserved : goal.loop-number-preserved
loop-number-preserved c =
    let new : WorkerRun = record { journal = c.push.new.self; state = c.end_lane.new.self } in
    ends-next c.loop-number.number-index c.lanes_in-number-items.result.now c.args.self.now
    c.loop-number.self new c.loop-number-test.true c.in_ok-push.ensures.ok
    c.end_lane.ensures.is c.loop-number.invariant

pub returns : goal.returns
returns c =
    ends-end (setup_view c.args.who.setup.now) (nth_worker (job_view c.args.who.setup.now.job) c.args.who.number)
    c.args.who.number c.loop-number.number-index c.lanes_in-number-items.result.now c.args.self.now
    c.loop-number.self c.lanes_in-number-items.ensures c.loop-number-test.false
    c.loop-number.invariant
