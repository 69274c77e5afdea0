use Rattle.std.proofs.Common.{length, reverse}
use Rattle.jobs.specs.Job.{job_view}
use Rattle.flow_model.specs.SetupView.{Worker as WorkerOf}
use Rattle.flow_worker.specs.Pairs.{EachPair}
use Rattle.flow_worker.specs.Worker.{IsSenderAt, lane_numbers_out}
use Rattle.flow_worker.proofs.OutputLemmas.{Comes}
use Rattle.flow_worker.proofs.outputs.enqueue_outputs.Given as goal

-- what still has to come of the outputs that are left completes what each lane gained
abbrev pub invariant-loop-output : goal.invariant-loop-output
invariant-loop-output g l = record {
  comes : (who : WorkerOf) → IsSenderAt (job_view l.job) l.node who (lane_numbers_out l.fn.outs) → EachPair (Comes (job_view l.job) who l.fn.made (reverse l.left.items)) l.fn.outs l.outs;
}

abbrev pub decreases-loop-output : goal.decreases-loop-output
decreases-loop-output g l = length l.left.items
