use Rattle.std.proofs.Common.{arith}
use Rattle.jobs.specs.Job.{job_view}
use Rattle.flow_model.proofs.SizeLemmas.{workers-few}
use Rattle.flow_replay.proofs.executor.Executor.end_all.Goals as goal

pub overflow_cast-who : goal.overflow_cast-who
overflow_cast-who c =
    let job = c.args.self.now.setup.now.job in
    omega (
      arith,
      c.loop-worker-test.true,
      c.args.self.now.one_each,
      workers-few (job_view job) job.lawful,
    )
