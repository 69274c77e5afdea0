use Rattle.std.proofs.Common.{◌==◌, ℕ, arith}
use Rattle.std.proofs.lemmas.Bool.{eq-eqb, ne_eqb}
use Rattle.flow_dag.specs.declared.edge.Edge.{Edge}
use Rattle.jobs.specs.Job.{job_view}
use Rattle.flow_model.specs.Topology.{out_edge, out_edges}
use Rattle.flow_model.proofs.TopologyLemmas.{numbered-end, numbered-skip, numbered-take, out_edge_at, out_edges-long}
use Rattle.flow_model.proofs.tables.edges_from.Goals as goal

pub overflow_cast-number : goal.overflow_cast-number
overflow_cast-number c =
    let long = out_edges-long (job_view c.args.job.now) c.args.all.now c.requires in
    omega (arith, long, c.loop-number-test.true, c.args.job.now.lawful.limits.edges)

pub edge-requires : goal.edge-requires
edge-requires c =
    let long = out_edges-long (job_view c.args.job.now) c.args.all.now c.requires in
    omega (arith, long, c.loop-number-test.true)

pub loop-number-preserved : goal.loop-number-preserved
loop-number-preserved c =
    numbered-take (out_edge (job_view c.args.job.now)) (λ (edge : ℕ × Edge). edge.1.from == c.args.node) (job_view c.args.job.now).edges c.loop-number.number c.edge.result c.loop-number.outs c.push.new.self
    (out_edges (job_view c.args.job.now) c.args.node) _ c.edge.ensures (eq-eqb c.edge.result.from c.args.node c.if-edge-node.false)
    (out_edge_at (job_view c.args.job.now) c.args.all.now c.loop-number.number c.edge.result _ c.requires c.edge.ensures) c.in_ok-push.ensures.ok c.loop-number.invariant

pub loop-number-preserved-then-edge-node : goal.loop-number-preserved-then-edge-node
loop-number-preserved-then-edge-node c =
    numbered-skip (out_edge (job_view c.args.job.now)) (λ (edge : ℕ × Edge). edge.1.from == c.args.node) (job_view c.args.job.now).edges c.loop-number.number c.edge.result c.loop-number.outs
    (out_edges (job_view c.args.job.now) c.args.node) c.edge.ensures (ne_eqb c.edge.result.from c.args.node c.if-edge-node.true) c.loop-number.invariant

pub returns : goal.returns
returns c =
    let long = out_edges-long (job_view c.args.job.now) c.args.all.now c.requires in
    numbered-end (out_edge (job_view c.args.job.now)) (λ (edge : ℕ × Edge). edge.1.from == c.args.node) (job_view c.args.job.now).edges c.loop-number.number c.loop-number.outs
    (out_edges (job_view c.args.job.now) c.args.node) (omega (arith, long, c.loop-number-test.false)) c.loop-number.invariant
