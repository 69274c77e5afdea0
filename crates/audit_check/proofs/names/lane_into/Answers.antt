use Rattle.std.proofs.Common.{◌≡◌, ◌∙◌, ◌<◌, ◌^◌, arith, rules, subst, sym}
use Rattle.std.proofs.lemmas.Fmt.{decimal_injective}
use Rattle.jobs.specs.Job.{job_view}
use Rattle.audit_laws.specs.Lines.{LeadsTo}
use Rattle.audit_check.proofs.names.lane_into.Goals as goal

pub returns-in_default-clause-none : goal.returns-in_default-clause-none
returns-in_default-clause-none c lane leads e =
    let fits : c.in-Some.lane < 2 ^ 32 = search rules in
    let lt = leads.0 in
    let same : lane ≡ c.in-Some.lane = decimal_injective lane c.in-Some.lane (omega arith) (omega arith) (sym e ∙ c.in-Some.ensures.some) in
    let yes = c.leads_to.ensures.1 (subst (LeadsTo (job_view c.args.setup.now.job) c.args.worker) same leads) in
    let no = c.if-leads_to.false in
    absurd (cc)
