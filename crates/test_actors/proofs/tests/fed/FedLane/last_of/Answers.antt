use Rattle.std.proofs.Common.{length}
use Rattle.jobs.specs.Job.{job_view}
use Rattle.lane_core.specs.Lane.{EndpointIs}
use Rattle.test_actors.proofs.Feeding.{all_unled, last_place}
use Rattle.test_actors.proofs.tests.fed.FedLane.last_of.Goals as goal

pub invariant_of-result : goal.invariant_of-result
invariant_of-result g c =
    let F : g.row.L-Tx.Denot → EndpointIs = g.L.Tx.Tx.state in
    let rest = c.pop.new.self.items in
    record {
      unled = all_unled (job_view c.args.job.now) _ (length rest) (F c.in_ok-end.end) c.args.job.now.lawful c.requires (last_place F rest c.args.feeder.items c.in_ok-end.end c.in_ok-end.ensures.items);
    }
