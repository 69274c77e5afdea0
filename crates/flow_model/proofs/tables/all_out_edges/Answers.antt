use Rattle.std.proofs.Common.{◌∙◌, ◌+◌, arith, ap, map}
use Rattle.std.specs.Prelude.{ℕ, List}
use Rattle.flow_dag.specs.declared.edge.Edge.{Edge}
use Rattle.jobs.specs.Job.{job_view}
use Rattle.flow_model.specs.Topology.{out_edge}
use Rattle.flow_model.proofs.TopologyLemmas.{edge_read, out_edge_made, first_lane-few, get-edge_read, lane_grows, out_edges-next, take-all_edges}
use Rattle.flow_model.proofs.tables.all_out_edges.Goals as goal

pub overflow_mul-first_lane : goal.overflow_mul-first_lane
overflow_mul-first_lane c =
    let edges = c.all_edges-edge-items.result.now in
    let i = c.loop-number.number in
    let item = get-edge_read edges c.args.job.now.dag.edges i c.all_edges-edge-items.ensures.edges c.loop-number-test.true in
    let grows = lane_grows (job_view c.args.job.now) i (edge_read edges i) c.loop-number.first_lane c.sender_count.result c.receiver_count-receivers.result item c.loop-number.invariant.first_lane c.sender_count.ensures c.receiver_count-receivers.ensures in
    omega (arith, grows, first_lane-few (job_view c.args.job.now) (i + 1) c.args.job.now.lawful)

pub overflow_add-first_lane : goal.overflow_add-first_lane
overflow_add-first_lane c =
    let edges = c.all_edges-edge-items.result.now in
    let i = c.loop-number.number in
    let item = get-edge_read edges c.args.job.now.dag.edges i c.all_edges-edge-items.ensures.edges c.loop-number-test.true in
    let grows = lane_grows (job_view c.args.job.now) i (edge_read edges i) c.loop-number.first_lane c.sender_count.result c.receiver_count-receivers.result item c.loop-number.invariant.first_lane c.sender_count.ensures c.receiver_count-receivers.ensures in
    omega (arith, grows, first_lane-few (job_view c.args.job.now) (i + 1) c.args.job.now.lawful)

pub loop-number-preserved : goal.loop-number-preserved
loop-number-preserved c =
    let edges = c.all_edges-edge-items.result.now in
    let i = c.loop-number.number in
    let item = get-edge_read edges c.args.job.now.dag.edges i c.all_edges-edge-items.ensures.edges c.loop-number-test.true in
    record {
      all = out_edges-next (job_view c.args.job.now) i (edge_read edges i) _ c.loop-number.all c.push.new.self item
          (out_edge_made (job_view c.args.job.now) i (edge_read edges i) c.loop-number.first_lane c.first_worker.result c.receiver_count-receivers.result c.loop-number.invariant.first_lane c.first_worker.ensures c.receiver_count-receivers.ensures)
          c.in_ok-push.ensures.ok c.loop-number.invariant.all;
      first_lane = lane_grows (job_view c.args.job.now) i (edge_read edges i) c.loop-number.first_lane c.sender_count.result c.receiver_count-receivers.result item c.loop-number.invariant.first_lane c.sender_count.ensures c.receiver_count-receivers.ensures;
    }

pub returns : goal.returns
returns c =
    c.loop-number.invariant.all
    ∙ ap (λ (l : List (ℕ × Edge)). map (out_edge (job_view c.args.job.now)) l)
    (take-all_edges c.args.job.now.dag.edges c.loop-number.number (rw (← c.all_edges-edge-items.ensures.edges) c.loop-number-test.false))
