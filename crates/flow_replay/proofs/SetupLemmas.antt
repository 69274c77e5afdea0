-- What the type of a setup keeps, in the words of a run.
use Rattle.std.proofs.Common.{arith}
use Rattle.jobs.specs.Job.{job_view}
use Rattle.flow_model.specs.declared.setup.Setup.{Setup}
use Rattle.flow_replay.specs.inner.Delivery.{rank_in}
use Rattle.flow_replay.proofs.DeliveryLemmas.{IsRanked}
use Rattle.flow_model.proofs.CoverLemmas.{AreCovering, covering}
use Rattle.flow_model.specs.Setup.{setup_view}
use Rattle.flow_replay.proofs.RankLemmas.{rank-below, rank-forward}

pub ranked : (setup : Setup) → IsRanked (job_view setup.job) (rank_in setup)
ranked setup = record {
  forward = rank-forward setup.job.dag;
  below = λ node lt. rank-below setup.job.dag node (omega (arith, lt, setup.job.drawn));
}

pub covered : (setup : Setup) → AreCovering (setup_view setup)
covered setup = covering (setup_view setup) setup.job.lawful setup.planned
