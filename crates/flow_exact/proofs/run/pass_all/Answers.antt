use Rattle.std.proofs.Common.{◌≡◌, ◌∙◌, ◌<◌, ◌≤◌, List, [], arith, length, min, subst, sym}
use Rattle.std.proofs.Common.{slice_index_or}
use Rattle.cover_planner.specs.declared.cover.Plan.{Plan}
use Rattle.jobs.specs.Job.{job_view}
use Rattle.versions.specs.Judged.{AreAccepted}
use Rattle.versions.specs.declared.request.Request.{Request}
use Rattle.flow_model.specs.Planned.{IsPlanned}
use Rattle.flow_model.specs.Setup.{setup_view}
use Rattle.flow_model.specs.SetupView.{SetupView}
use Rattle.flow_exact.specs.inner.Course.{with_requests}
use Rattle.flow_exact.proofs.OrderLemmas.{accepted_next, in_order_next, plan_read, planned_next}
use Rattle.flow_exact.proofs.OrderLemmas.{request_read, setup_next}
use Rattle.flow_exact.proofs.run.pass_all.Goals as goal

-- what an index beyond the list reads
abbrev none : Plan
none = record { asked = 0; members = 0; nodes = 0; edges = 0; heads = 0; part = [] }

pub pass-requires-clause-accepted : goal.pass-requires-clause-accepted
pass-requires-clause-accepted g c κs within =
    let place = c.loop-place.place in
    let requests : List Request = c.as_slice-requests.result.now in
    let plans : List Plan = c.as_slice-plans.result.now in
    let whole : SetupView = with_requests (setup_view c.args.course.setup) requests plans in
    let request : Request = c.index-requests-place.result in
    let lt : place < length requests = omega arith in
    let there = request_read requests place request lt c.index-requests-place.is in
    let planned = plan_read c.args.waiting.now.requests requests c.args.waiting.now.plans plans
    place none c.as_slice-requests.ensures c.as_slice-plans.ensures c.requires.one_each lt in
    accepted_next whole c.loop-place.course.setup place request (slice_index_or plans place none)
    c.loop-place.invariant.setup there planned
    (subst (AreAccepted (job_view c.args.course.setup.job)) (sym c.as_slice-requests.ensures)
    c.requires.accepted)

pub pass-requires-clause-planned : goal.pass-requires-clause-planned
pass-requires-clause-planned g c κs within =
    let place = c.loop-place.place in
    let requests : List Request = c.as_slice-requests.result.now in
    let plans : List Plan = c.as_slice-plans.result.now in
    let whole : SetupView = with_requests (setup_view c.args.course.setup) requests plans in
    let request : Request = c.index-requests-place.result in
    let lt : place < length requests = omega arith in
    let there = request_read requests place request lt c.index-requests-place.is in
    let planned = plan_read c.args.waiting.now.requests requests c.args.waiting.now.plans plans
    place none c.as_slice-requests.ensures c.as_slice-plans.ensures c.requires.one_each lt in
    planned_next whole c.loop-place.course.setup place request (slice_index_or plans place none)
    c.loop-place.invariant.setup there planned
    (subst (λ (l : List Request). ∥ IsPlanned (with_requests (setup_view c.args.course.setup) l
    plans) ∥₁) (sym c.as_slice-requests.ensures)
    (subst (λ (l : List Plan). ∥ IsPlanned (with_requests (setup_view c.args.course.setup)
    c.args.waiting.now.requests l) ∥₁) (sym c.as_slice-plans.ensures) c.requires.planned))

pub loop-place-preserved : goal.loop-place-preserved
loop-place-preserved g c =
    let place = c.loop-place.place in
    let requests : List Request = c.as_slice-requests.result.now in
    let plans : List Plan = c.as_slice-plans.result.now in
    let whole : SetupView = with_requests (setup_view c.args.course.setup) requests plans in
    let request : Request = c.index-requests-place.result in
    let lt : place < length requests = omega arith in
    let there = request_read requests place request lt c.index-requests-place.is in
    let planned = plan_read c.args.waiting.now.requests requests c.args.waiting.now.plans plans
    place none c.as_slice-requests.ensures c.as_slice-plans.ensures c.requires.one_each lt in
    let next = c.in_ok-course.course in
    let row_is : next.start.row ≡ min request.after (length c.args.rows.now) =
    c.in_ok-course.ensures.row in
    let late : next.start.row ≤ request.after = omega (arith, row_is) in
    record {
      setup =
          setup_next whole c.loop-place.course.setup place request
          (slice_index_or plans place none) c.loop-place.invariant.setup there planned
          next.setup c.in_ok-course.ensures.setup;
      refused = c.in_ok-course.ensures.refused ∙ c.loop-place.invariant.refused;
      course = c.in_ok-course.ensures.course;
      in_order =
          in_order_next c.loop-place.course.start.row next.start.row place requests request there
          c.loop-place.invariant.in_order late;
    }
