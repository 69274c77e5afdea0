use Rattle.std.proofs.Common.{◌≡◌, ◌∙◌, arith, refl, sym, subst}
use Rattle.std.proofs.lemmas.Option.{same_Some}
use Rattle.flow_dag.specs.declared.edge.Edge.{Edge}
use Rattle.jobs.specs.Job.{job_view}
use Rattle.flow_model.specs.Topology.{out_edge}
use Rattle.flow_model.proofs.RouteLemmas.{lane_fits, lane_made}
use Rattle.flow_model.proofs.topology.lane_by.Goals as goal

pub overflow_mul-result : goal.overflow_mul-result
overflow_mul-result c =
    let there = c.requires.there in
    let fits = lane_fits (job_view c.args.job.now) c.args.out.now there.0 c.args.sender.node c.args.sender.place c.lane_of-receiver.result c.args.tuple.now c.args.job.now.lawful there.1 there.2 there.3 c.requires.sender c.lane_of-receiver.ensures in
    omega (arith, fits)

pub overflow_add-result : goal.overflow_add-result
overflow_add-result c =
    let there = c.requires.there in
    let fits = lane_fits (job_view c.args.job.now) c.args.out.now there.0 c.args.sender.node c.args.sender.place c.lane_of-receiver.result c.args.tuple.now c.args.job.now.lawful there.1 there.2 there.3 c.requires.sender c.lane_of-receiver.ensures in
    omega (arith, fits)

pub overflow_add-result-2 : goal.overflow_add-result-2
overflow_add-result-2 c =
    let there = c.requires.there in
    let fits = lane_fits (job_view c.args.job.now) c.args.out.now there.0 c.args.sender.node c.args.sender.place c.lane_of-receiver.result c.args.tuple.now c.args.job.now.lawful there.1 there.2 there.3 c.requires.sender c.lane_of-receiver.ensures in
    omega (arith, fits)

pub returns : goal.returns
returns c from sends edge there =
    let known = c.requires.there in
    let same : known.0 ≡ edge = same_Some known.0 edge (sym known.1 ∙ there) in
    lane_made (job_view c.args.job.now) c.args.out.now edge c.args.sender.node c.args.sender.place c.lane_of-receiver.result c.args.tuple.now from _ c.args.job.now.lawful there
    (subst (λ (e : Edge). e.from ≡ c.args.sender.node) same known.2)
    (subst (λ (e : Edge). c.args.out.now ≡ out_edge (job_view c.args.job.now) (c.args.out.now.edge, e)) same known.3)
    sends c.lane_of-receiver.ensures refl
