use Rattle.std.proofs.Common.{[]}
use Rattle.flow_model.specs.Topology.{numbers_out}
use Rattle.flow_model.proofs.TopologyLemmas.{pushed-range}
use Rattle.flow_model.proofs.tables.numbers_out_each.Goals as goal

pub loop-worker-preserved : goal.loop-worker-preserved
loop-worker-preserved c =
    pushed-range (numbers_out c.args.all.now) [] c.loop-worker.from c.push.new.self c.loop-worker.worker c.in_ok-numbers_out.field-0 c.loop-worker.invariant c.in_ok-push.ensures.ok c.in_ok-numbers_out.ensures
