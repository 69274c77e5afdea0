use Rattle.std.proofs.Common.{[]}
use Rattle.flow_model.specs.Topology.{numbers_in}
use Rattle.flow_model.proofs.TopologyLemmas.{pushed-range}
use Rattle.flow_model.proofs.tables.numbers_in_each.Goals as goal

pub loop-worker-preserved : goal.loop-worker-preserved
loop-worker-preserved c =
    pushed-range (numbers_in c.args.all.now) [] c.loop-worker.into c.push.new.self c.loop-worker.worker c.in_ok-numbers_in.field-0 c.loop-worker.invariant c.in_ok-push.ensures.ok c.in_ok-numbers_in.ensures
