use Rattle.std.proofs.Common.{◌≡◌, ◌∙◌, ◌≤◌, ◌+◌, ◌-◌, ◌*◌, arith, sym, rules}
use Rattle.std.proofs.lemmas.List.{length-append}
use Rattle.jobs.specs.Job.{job_view}
use Rattle.jobs.specs.Weights.{weight}
use Rattle.payments.specs.Reading.{work_max}
use Rattle.payments.proofs.MadeLemmas.{AreFromSources-rows_made_from, HaveShortTexts-rows_made_from, made_rows-ok, rows_made_from-end, rows_made_from-step}
use Rattle.payments.proofs.make.make_rows.Goals as goal

pub loop-row-preserved : goal.loop-row-preserved
loop-row-preserved c =
    let inv = c.loop-row.invariant in
    let step = rows_made_from-step (job_view c.args.job.now) c.loop-row.draws.number c.row_of.new.draws.number (c.loop-row.row + 1) (c.args.rows - c.loop-row.row) c.loop-row.made c.in_ok-row_of.field-0
    (omega (arith, c.loop-row-test.true)) c.in_ok-row_of.ensures.ok c.in_ok-row_of.ensures.draws in
    let same : c.args.rows - c.loop-row.row - 1 ≡ c.args.rows - (c.loop-row.row + 1) = omega arith in
    rw c.in_ok-push.ensures.ok (record { count = simp length-append (omega (arith, inv.count)); left = rw (← same) (step ∙ inv.left) })

pub returns-clause-ok : goal.returns-clause-ok
returns-clause-ok c =
    let none : c.args.rows - c.loop-row.row ≡ 0 = omega (arith, c.loop-row-test.false) in
    let made = sym (rows_made_from-end (job_view c.args.job.now) c.loop-row.draws.number (c.loop-row.row + 1) c.loop-row.made) ∙ rw none at c.loop-row.invariant.left in
    let within : c.args.rows * weight (job_view c.args.job.now) ≤ work_max = search rules in
    made_rows-ok (job_view c.args.job.now) c.args.seed c.args.rows c.loop-row.made within made

pub returns-clause-sources : goal.returns-clause-sources
returns-clause-sources c =
    let none : c.args.rows - c.loop-row.row ≡ 0 = omega (arith, c.loop-row-test.false) in
    let made = sym (rows_made_from-end (job_view c.args.job.now) c.loop-row.draws.number (c.loop-row.row + 1) c.loop-row.made) ∙ rw none at c.loop-row.invariant.left in
    rw made (AreFromSources-rows_made_from (job_view c.args.job.now) c.args.seed 1 c.args.rows (rw (← c.in_ok-sources.ensures.sources) c.in_ok-sources.ensures.some))

pub returns-clause-texts : goal.returns-clause-texts
returns-clause-texts c =
    let none : c.args.rows - c.loop-row.row ≡ 0 = omega (arith, c.loop-row-test.false) in
    let made = sym (rows_made_from-end (job_view c.args.job.now) c.loop-row.draws.number (c.loop-row.row + 1) c.loop-row.made) ∙ rw none at c.loop-row.invariant.left in
    rw made (HaveShortTexts-rows_made_from (job_view c.args.job.now) c.args.seed 1 c.args.rows)
