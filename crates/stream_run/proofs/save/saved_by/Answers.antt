use Rattle.std.proofs.Common.{arith}
use Rattle.flow_model.proofs.WorkerListLemmas.{length-workers_from}
use Rattle.stream_run.proofs.save.saved_by.Goals as goal

pub stream_text-requires : goal.stream_text-requires
stream_text-requires c =
    omega (arith, c.args.stream.states, length-workers_from 0 0 c.args.stream.setup.job.nodes)
