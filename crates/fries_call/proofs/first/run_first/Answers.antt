use Rattle.std.proofs.Common.{◌≡◌, ◌∷◌, [], false, rules, subst}
use Rattle.jobs.specs.Job.{job_view}
use Rattle.jobs.specs.JobView.{JobView}
use Rattle.jobs.specs.Nodes.{AreFromSources}
use Rattle.tuple_trace.specs.Rows.{AreRows}
use Rattle.fries_words.specs.Asked.{first_asked}
use Rattle.fries_steps.specs.FirstJob.{first_job, first_request}
use Rattle.fries_steps.specs.Reading.{AreRowsOf}
use Rattle.fries_steps.specs.Running.{IsRunOf}
use Rattle.fries_steps.specs.SetupFor.{AreSame}
use Rattle.fries_call.proofs.FirstLemmas.{first_runs}
use Rattle.fries_call.proofs.first.run_first.Goals as goal

pub returns-clause-run : goal.returns-clause-run
returns-clause-run g c =
    let asked = first_asked c.args.first.now in
    let files = (g.S.Shelf.state c.args.shelf.now).files in
    let rows = c.in_ok-rows.rows in
    let done = c.in_ok-run_in_order.field-0 in
    let job : job_view c.in_ok-job.job ≡ first_job asked.least = search rules in
    let requests : c.in_ok-requests.requests ≡ first_request asked.after asked.least_after ∷ [] = search rules in
    let run : IsRunOf AreSame false (first_job asked.least) (first_request asked.after asked.least_after ∷ []) rows done = rw (← job, ← requests) c.in_ok-run_in_order.ensures.run in
    first_runs asked files rows done
    (subst (λ (w : JobView). AreRowsOf files asked.payments w rows) job c.in_ok-rows.ensures.rows)
    (subst AreRows c.rows.view_is c.rows.invariant)
    (subst (λ (w : JobView). AreFromSources w rows) job c.in_ok-rows.ensures.sources)
    run c.in_ok-run_in_order.ensures.order
