use Rattle.std.proofs.Common.{◌≡◌, ◌-◌, length}
use Rattle.std.specs.Vec.Iter.{into_iter_items, into_iter_len}
use Rattle.jobs.specs.Job.{job_view}
use Rattle.flow_model.specs.Setup.{setup_view}
use Rattle.flow_replay.specs.inner.Delivery.{IsInFlight, rank_behind, rank_in}
use Rattle.flow_replay.specs.inner.Executor.{SameBesideRuns}
use Rattle.flow_replay.proofs.executor.Executor.+deliver.Given as goal

abbrev pub decreases-deliver : goal.decreases-deliver
decreases-deliver l =
    64 - rank_behind (job_view l.self.now.setup.now.job) (rank_in l.self.now.setup.now) l.lane

abbrev pub invariant-loop-out : goal.invariant-loop-out
invariant-loop-out l = record {
  may : (goal.iterator-loop-out).can_next l.out-iterator;
  finite : (goal.iterator-loop-out).is_finite l.out-iterator;
  counted : into_iter_len l.out-iterator ≡ length (into_iter_items l.out-iterator);
  same : SameBesideRuns l.fn.self l.self;
  way :
      IsInFlight (setup_view l.fn.self.setup.now) (rank_in l.fn.self.setup.now) l.fn.lane l.fn.tuple
      (into_iter_items l.out-iterator) l.fn.self.runs.items l.self.runs.items;
}
