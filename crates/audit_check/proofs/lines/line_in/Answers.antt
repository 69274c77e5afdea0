use Rattle.std.proofs.Common.{◌≡◌, ℤ, rules, subst, sym, w64}
use Rattle.std.proofs.lemmas.Int.{to_z-of_z}
use mir.Val.{SFits}
use Rattle.jobs.specs.Job.{job_view}
use Rattle.audit_laws.specs.declared.audit.Line.TheVariants as line
use Rattle.audit_laws.specs.Lines.{IsLawfulLine, line_fields}
use Rattle.audit_laws.specs.Names.{named_workers}
use Rattle.audit_check.specs.Cells.{cells_of}
use Rattle.audit_check.proofs.LineLemmas.{no_line, no_worker, state_line, step_line}
use Rattle.audit_check.proofs.lines.line_in.Goals as goal

pub returns-in_default-worker_named-clause-none : goal.returns-in_default-worker_named-clause-none
returns-in_default-worker_named-clause-none c =
    no_worker (job_view c.args.setup.now.job) c.args.six c.in_default.ensures.none c.in_default-step_in.ensures.none c.in_default-worker_named.ensures.none

pub returns-in-Some-2-clause-some : goal.returns-in-Some-2-clause-some
returns-in-Some-2-clause-some c =
    step_line (job_view c.args.setup.now.job) c.args.six c.in-Some-worker_named.worker c.in-Some-2.entry c.in-Some-worker_named.ensures.some (rw c.in-Some-2.is at c.in_ok-entry.ensures.some)

pub returns-in_default-count_in-clause-none : goal.returns-in_default-count_in-clause-none
returns-in_default-count_in-clause-none c =
    let job = job_view c.args.setup.now.job in
    no_line job c.args.setup.now.job.lawful c.args.six c.in-Some-worker_named.worker c.in_default.ensures.none c.in_default-step_in.ensures.none c.in-Some-worker_named.ensures.some
    (rw c.in_default-2.is at c.in_ok-entry.ensures.none) c.in_default-count_in.ensures.none

pub returns-clause-some : goal.returns-clause-some
returns-clause-some c =
    let job = job_view c.args.setup.now.job in
    let w = c.in-Some-worker_named.worker in
    let fits : SFits w64 c.in-Some-count_in.count = search rules in
    let same = to_z-of_z w64 c.in-Some-count_in.count fits in
    subst (λ (z : ℤ). IsLawfulLine job (line.State w c.in_ok-key.key z) × (cells_of c.args.six ≡ line_fields (named_workers job.nodes) (line.State w c.in_ok-key.key z))) (sym same)
    (state_line job c.args.six w c.in_ok-key.key c.in-Some-count_in.count c.in-Some-worker_named.ensures.some fits.sfits c.in_ok-key.ensures c.in-Some-count_in.ensures.some)
