use Rattle.std.proofs.Common.{◌∙◌, arith}
use Rattle.jobs.specs.Job.{job_view}
use Rattle.flow_worker.proofs.OutputPlaces.{edge_within, only_place, outs_few}
use Rattle.flow_worker.proofs.outputs.place_of.Goals as goal

pub lane_of-requires : goal.lane_of-requires
lane_of-requires c = edge_within (job_view c.args.job.now) c.args.node c.loop-edge.edge-index c.args.edges.now _ c.requires c.loop-edge-test.true

pub overflow_add-result : goal.overflow_add-result
overflow_add-result c =
    let few = outs_few (job_view c.args.job.now) c.args.node c.args.edges.now c.args.job.now.lawful c.requires in
    let small = c.loop-edge.invariant.small in
    let here = c.loop-edge-test.true in
    omega arith

pub overflow_add-first : goal.overflow_add-first
overflow_add-first c =
    let few = outs_few (job_view c.args.job.now) c.args.node c.args.edges.now c.args.job.now.lawful c.requires in
    let small = c.loop-edge.invariant.small in
    let here = c.loop-edge-test.true in
    omega arith

pub returns-then-edge-eq1 : goal.returns-then-edge-eq1
returns-then-edge-eq1 c =
    only_place (job_view c.args.job.now) c.args.node c.loop-edge.edge-index c.args.edges.now _ c.args.port c.loop-edge.first c.args.tuple.now c.args.job.now.lawful c.requires c.loop-edge-test.true c.if-edge-port.true c.if-edge-eq1.true
    ∙ c.loop-edge.invariant.place
