use Rattle.std.proofs.Common.{◌∙◌, ap}
use Rattle.std.specs.List.{flat_map}
use Rattle.std.specs.Prelude.{ℕ, List}
use Rattle.flow_dag.specs.declared.edge.Edge.{Edge}
use Rattle.jobs.specs.Job.{job_view}
use Rattle.flow_model.specs.Topology.{lanes_along}
use Rattle.flow_model.proofs.TopologyLemmas.{edge_read, get-edge_read, lanes-next, take-all_edges}
use Rattle.flow_model.proofs.tables.all_lanes.Goals as goal

pub push_edge-requires : goal.push_edge-requires
push_edge-requires c =
    get-edge_read c.all_edges-edge-items.result.now c.args.job.now.dag.edges c.loop-number.number c.all_edges-edge-items.ensures.edges c.loop-number-test.true

pub loop-number-preserved : goal.loop-number-preserved
loop-number-preserved c =
    let edges = c.all_edges-edge-items.result.now in
    let i = c.loop-number.number in
    let item = get-edge_read edges c.args.job.now.dag.edges i c.all_edges-edge-items.ensures.edges c.loop-number-test.true in
    lanes-next (job_view c.args.job.now) i (edge_read edges i) c.loop-number.all c.push_edge.new.all item c.in_ok-push_edge.ensures c.loop-number.invariant

pub returns : goal.returns
returns c =
    c.loop-number.invariant
    ∙ ap (λ (l : List (ℕ × Edge)). flat_map (lanes_along (job_view c.args.job.now)) l)
    (take-all_edges c.args.job.now.dag.edges c.loop-number.number (rw (← c.all_edges-edge-items.ensures.edges) c.loop-number-test.false))
