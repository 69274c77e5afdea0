use Rattle.std.proofs.Common.{◌∙◌, ◌++◌, arith, ap}
use Rattle.std.specs.List.{flat_map}
use Rattle.std.specs.Prelude.{List, ℕ, Option}
use Rattle.std.proofs.lemmas.List.{take_all}
use Rattle.jobs.specs.Job.{job_view}
use Rattle.flow_model.specs.Lanes.{senders}
use Rattle.flow_model.proofs.JobLemmas.{inside_edge}
use Rattle.flow_model.proofs.LaneLemmas.{lanes_from}
use Rattle.flow_model.proofs.TopologyLemmas.{lanes_to-from, senders-next, workers_fit}
use Rattle.flow_model.proofs.tables.push_edge.Goals as goal

pub first_worker-first-requires : goal.first_worker-first-requires
first_worker-first-requires c = (inside_edge (job_view c.args.job.now) c.args.job.now.lawful c.args.number c.args.edge.now c.requires).1

pub receiver_count-workers-requires : goal.receiver_count-workers-requires
receiver_count-workers-requires c = (inside_edge (job_view c.args.job.now) c.args.job.now.lawful c.args.number c.args.edge.now c.requires).1

pub sender_count-senders-requires : goal.sender_count-senders-requires
sender_count-senders-requires c = (inside_edge (job_view c.args.job.now) c.args.job.now.lawful c.args.number c.args.edge.now c.requires).0

pub sender_at-sender-requires-clause-node : goal.sender_at-sender-requires-clause-node
sender_at-sender-requires-clause-node c = (inside_edge (job_view c.args.job.now) c.args.job.now.lawful c.args.number c.args.edge.now c.requires).0

pub push_lanes-requires : goal.push_lanes-requires
push_lanes-requires c =
    let fit = workers_fit (job_view c.args.job.now) c.args.number c.args.edge.now c.first_worker-first.result c.receiver_count-workers.result c.args.job.now.lawful c.requires c.first_worker-first.ensures c.receiver_count-workers.ensures in
    omega (arith, fit)

pub loop-place-preserved : goal.loop-place-preserved
loop-place-preserved c =
    senders-next (job_view c.args.job.now) c.args.number c.args.edge.now c.loop-place.place c.sender_at-sender.result c.args.all.now c.loop-place.all c.push_lanes.new.all _ c.sender_at-sender.ensures
    c.loop-place.invariant c.in_ok-push_lanes.ensures
    (lanes_to-from (job_view c.args.job.now) c.args.number c.args.edge.now c.sender_at-sender.result c.first_worker-first.result c.receiver_count-workers.result c.args.job.now.lawful c.requires c.first_worker-first.ensures c.receiver_count-workers.ensures)

pub returns : goal.returns
returns c =
    c.loop-place.invariant
    ∙ ap (λ (l : List (Option ℕ)). c.args.all.now ++ flat_map (lanes_from (job_view c.args.job.now) c.args.number c.args.edge.now) l)
    (take_all c.loop-place.place (senders (job_view c.args.job.now) c.args.edge.now.from) (omega (arith, c.loop-place-test.false, c.sender_count-senders.ensures)))
