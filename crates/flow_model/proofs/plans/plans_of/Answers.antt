use Rattle.std.proofs.Common.{◌≡◌, ◌++◌, [], List, length, refl}
use Rattle.std.proofs.lemmas.Result.{IfOk-weaker}
use Rattle.cover_planner.specs.declared.cover.Plan.{Plan}
use Rattle.jobs.specs.Job.{job_view}
use Rattle.flow_model.specs.Planned.{ArePlansFrom, ArePlansOf}
use Rattle.flow_model.proofs.plans.plans_of.Goals as goal

pub returns : goal.returns
returns c =
    IfOk-weaker c.plans_after.result
    (λ plans. (old : List Plan) → length old ≡ 0 → ArePlansFrom 0 (job_view c.args.job.now) c.args.splits c.args.ordered c.args.requests.now (old ++ plans))
    (λ plans. ArePlansOf (job_view c.args.job.now) c.args.splits c.args.ordered c.args.requests.now plans) (λ plans are. are [] refl) c.plans_after.ensures
