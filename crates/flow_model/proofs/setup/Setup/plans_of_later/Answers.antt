use Rattle.std.proofs.Common.{◌≡◌, ◌<◌, ◌++◌, ℕ, All, List, length}
use Rattle.std.proofs.Math.Logic.{∥∥₁_elim}
use Rattle.std.proofs.Math.Nat.{ℕ_set}
use Rattle.std.proofs.lemmas.Result.{IfOk-weaker}
use Rattle.cover_planner.specs.declared.cover.Plan.{Plan}
use Rattle.jobs.specs.Job.{job_view}
use Rattle.versions.specs.Judged.{NameNodes}
use Rattle.versions.specs.declared.request.Change.{Change}
use Rattle.versions.specs.declared.request.Request.{Request}
use Rattle.flow_model.specs.Planned.{ArePlansFrom}
use Rattle.flow_model.proofs.PlanLemmas.{All-back, All-front}
use Rattle.flow_model.proofs.setup.Setup.plans_of_later.Goals as goal

abbrev IsInside : ℕ → Request → Type 0
IsInside count request = All (λ (change : Change). change.node < count) request.changes

pub plans_after-requires-clause-earlier : goal.plans_after-requires-clause-earlier
plans_after-requires-clause-earlier c =
    let own = c.args.self.now.judged.accepted in
    let job = job_view c.args.self.now.job in
    let all : NameNodes job (own ++ c.args.later.now) = c.accepted_requests_name_nodes.ensures job (own ++ c.args.later.now) c.requires in
    rw c.as_slice-earlier.ensures (All-front (IsInside (length c.args.self.now.job.nodes)) own c.args.later.now all)

pub plans_after-requires-clause-later : goal.plans_after-requires-clause-later
plans_after-requires-clause-later c =
    let own = c.args.self.now.judged.accepted in
    let job = job_view c.args.self.now.job in
    let all : NameNodes job (own ++ c.args.later.now) = c.accepted_requests_name_nodes.ensures job (own ++ c.args.later.now) c.requires in
    All-back (IsInside (length c.args.self.now.job.nodes)) own c.args.later.now all

pub returns : goal.returns
returns c =
    let self = c.args.self.now in
    let own = self.judged.accepted in
    let one_each : length self.plans ≡ length own = ∥∥₁_elim self.planned (ℕ_set _ _) (λ is. is.one_each) in
    IfOk-weaker c.plans_after.result
    (λ plans. (old : List Plan) → length old ≡ length own → ArePlansFrom (length own) (job_view self.job) self.splits self.ordered (own ++ c.args.later.now) (old ++ plans))
    (λ plans. ArePlansFrom (length own) (job_view self.job) self.splits self.ordered (own ++ c.args.later.now) (self.plans ++ plans)) (λ plans are. are self.plans one_each)
    (rw c.as_slice-earlier.ensures at c.plans_after.ensures)
