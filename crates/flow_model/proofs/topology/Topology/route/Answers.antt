use Rattle.std.proofs.Common.{Option, ap, length, sym, subst, ℕ}
use Rattle.flow_dag.specs.declared.edge.Edge.{Edge}
use Rattle.jobs.specs.Job.{job_view}
use Rattle.flow_model.specs.declared.topology.Topology.{Topology}
use Rattle.flow_model.specs.Lanes.{lane_along}
use Rattle.flow_model.specs.Topology.{IsNumberOf, out_edges}
use Rattle.flow_model.proofs.RouteLemmas.{found_out, no_out, row_at, row_within, sends_within}
use Rattle.flow_model.proofs.topology.Topology.route.Goals as goal

pub bounds-as_slice-sender : goal.bounds-as_slice-sender
bounds-as_slice-sender c =
    let job = job_view c.args.job.now in
    row_within (out_edges job) (length job.nodes) c.args.sender.node c.args.self.now.out_edges c.as_slice.result.now (ap (λ (t : Topology). t.out_edges) c.requires.topology) c.as_slice.ensures
    (sends_within job c.args.sender.node c.args.sender.place c.requires.sender)

pub lane_by-requires-clause-there : goal.lane_by-requires-clause-there
lane_by-requires-clause-there c =
    let job = job_view c.args.job.now in
    let row = row_at (out_edges job) (length job.nodes) c.args.sender.node c.args.self.now.out_edges c.as_slice.result.now c.index-as_slice-sender.result c.as_slice-outs.result.now (ap (λ (t : Topology). t.out_edges) c.requires.topology) c.as_slice.ensures
    (sends_within job c.args.sender.node c.args.sender.place c.requires.sender) c.index-as_slice-sender.is c.as_slice-outs.ensures in
    let is = found_out job c.args.sender.node c.args.port c.as_slice-outs.result.now c.in-Some.out.now row c.in-Some.ensures in
    (is.edge, is.edge_is, is.from_is, is.made)

pub returns-in-Some-clause-some : goal.returns-in-Some-clause-some
returns-in-Some-clause-some c from sends =
    let job = job_view c.args.job.now in
    let row = row_at (out_edges job) (length job.nodes) c.args.sender.node c.args.self.now.out_edges c.as_slice.result.now c.index-as_slice-sender.result c.as_slice-outs.result.now (ap (λ (t : Topology). t.out_edges) c.requires.topology) c.as_slice.ensures
    (sends_within job c.args.sender.node c.args.sender.place c.requires.sender) c.index-as_slice-sender.is c.as_slice-outs.ensures in
    let is = found_out job c.args.sender.node c.args.port c.as_slice-outs.result.now c.in-Some.out.now row c.in-Some.ensures in
    subst (λ (o : Option (ℕ × Edge)). IsNumberOf job (lane_along job from o c.args.tuple.now) c.lane_by.result) (sym is.first) (c.lane_by.ensures from sends is.edge is.edge_is)

pub returns-in-None-clause-none : goal.returns-in-None-clause-none
returns-in-None-clause-none c from =
    let job = job_view c.args.job.now in
    let row = row_at (out_edges job) (length job.nodes) c.args.sender.node c.args.self.now.out_edges c.as_slice.result.now c.index-as_slice-sender.result c.as_slice-outs.result.now (ap (λ (t : Topology). t.out_edges) c.requires.topology) c.as_slice.ensures
    (sends_within job c.args.sender.node c.args.sender.place c.requires.sender) c.index-as_slice-sender.is c.as_slice-outs.ensures in
    ap (λ (o : Option (ℕ × Edge)). lane_along job from o c.args.tuple.now) (no_out job c.args.sender.node c.args.port c.as_slice-outs.result.now row c.in-None.ensures)
