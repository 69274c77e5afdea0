use Rattle.std.proofs.Common.{◌≡◌, ◌∙◌, List, ap, length, subst, sym}
use Rattle.cover_planner.specs.declared.cover.Plan.{Plan}
use Rattle.jobs.specs.Job.{job_view}
use Rattle.versions.specs.Kept.{AreInOrder}
use Rattle.versions.specs.declared.request.Request.{Request}
use Rattle.flow_model.specs.Record.{record_view}
use Rattle.flow_model.specs.Setup.{setup_view}
use Rattle.flow_exact.proofs.CourseLemmas.{ends_exactly, ends_run}
use Rattle.flow_exact.proofs.ExactLemmas.{one_each}
use Rattle.flow_exact.proofs.OrderLemmas.{setup_again}
use Rattle.flow_exact.proofs.run.run_exactly.Goals as goal

pub pass_all-requires-clause-one_each : goal.pass_all-requires-clause-one_each
pass_all-requires-clause-one_each g c κs within =
    ap (λ (l : List Plan). length l) c.take_requests-setup.ensures.plans
    ∙ (one_each c.args.setup
    ∙ ap (λ (l : List Request). length l) (sym c.take_requests-setup.ensures.requests))

pub pass_all-requires-clause-in_order : goal.pass_all-requires-clause-in_order
pass_all-requires-clause-in_order g c κs within =
    let waiting : List Request = c.take_requests-setup.result.waiting.requests in
    let all : AreInOrder 0 waiting =
    subst (AreInOrder 0) (sym c.take_requests-setup.ensures.requests)
    (c.accepted_requests_are_in_order.ensures (job_view c.args.setup.job)
    c.args.setup.judged.accepted c.args.setup.accepted) in
    subst (λ k. AreInOrder k waiting) (sym c.in_ok-course.ensures.row)
    (subst (AreInOrder c.first_border-row.result) c.as_slice.ensures
    (c.first_border-row.ensures.in_order
    (subst (AreInOrder 0) (sym c.as_slice.ensures) all)))

pub returns-clause-run : goal.returns-clause-run
returns-clause-run g c =
    let emptied = c.take_requests-setup.result in
    let setup_is : setup_view c.in_ok-fed.fed.setup ≡ setup_view c.args.setup =
    setup_again (setup_view c.args.setup) emptied.setup c.in_ok-course.course.setup
    c.in_ok-issued.issued.setup c.in_ok-fed.fed.setup emptied.waiting.requests
    emptied.waiting.plans c.take_requests-setup.ensures.setup
    c.take_requests-setup.ensures.requests c.take_requests-setup.ensures.plans
    c.in_ok-course.ensures.setup c.in_ok-issued.ensures.setup c.in_ok-fed.ensures.setup in
    ends_run c.args.rows.now c.in_ok-fed.fed (setup_view c.args.setup)
    (record_view c.record.result) c.in_ok-fed.ensures.course
    (c.in_ok-fed.ensures.row ∙ c.len-last.ensures) setup_is c.record.ensures.ran

pub returns-clause-exact : goal.returns-clause-exact
returns-clause-exact g c request above =
    let emptied = c.take_requests-setup.result in
    let setup_is : setup_view c.in_ok-fed.fed.setup ≡ setup_view c.args.setup =
    setup_again (setup_view c.args.setup) emptied.setup c.in_ok-course.course.setup
    c.in_ok-issued.issued.setup c.in_ok-fed.fed.setup emptied.waiting.requests
    emptied.waiting.plans c.take_requests-setup.ensures.setup
    c.take_requests-setup.ensures.requests c.take_requests-setup.ensures.plans
    c.in_ok-course.ensures.setup c.in_ok-issued.ensures.setup c.in_ok-fed.ensures.setup in
    ends_exactly c.args.rows.now c.in_ok-fed.fed (setup_view c.args.setup)
    (record_view c.record.result) c.in_ok-fed.ensures.course
    (c.in_ok-fed.ensures.row ∙ c.len-last.ensures) setup_is c.record.ensures.ran request above
