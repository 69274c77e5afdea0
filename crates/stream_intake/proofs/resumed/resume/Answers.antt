use Rattle.std.proofs.Common.{◌≡◌, ◌∙◌, ◌≤◌, ◌++◌, All, List, Some, ap, arith, drop, length, subst}
use Rattle.std.proofs.Common.{sym, take}
use Rattle.std.proofs.lemmas.List.{take-append-drop, take_min}
use Rattle.std.proofs.lemmas.List.Elements.{All-drop, All-take}
use Rattle.std.proofs.lemmas.Result.{err_from_is_err_and}
use Rattle.jobs.specs.Job.{job_view}
use Rattle.versions.specs.Judged.{judged_within}
use Rattle.versions.specs.declared.in_order.Judged.{Judged}
use Rattle.versions.specs.declared.limits.TheConstants.{MAX_CHANGES}
use Rattle.versions.specs.declared.request.Request.{Request}
use Rattle.flow_model.specs.Setup.{setup_view}
use Rattle.flow_model.specs.declared.setup.Setup.{Setup}
use Rattle.stream_step.specs.Resumed.{IsResumed}
use Rattle.stream_intake.specs.Intake.{IsKnownTo, judged_in, refused_after}
use Rattle.stream_intake.proofs.GoneLemmas.{gone_fault, gone_pending}
use Rattle.stream_intake.proofs.IntakeLemmas.{judged_alike, taken_fewer}
use Rattle.stream_intake.proofs.resumed.resume.Goals as goal

pub invariant_of-known-clause-few : goal.invariant_of-known-clause-few
invariant_of-known-clause-few c =
    omega (
      arith,
      ap (λ (l : List Request). length l) c.in_ok-first.ensures.first,
      taken_fewer
          c.read_of-read.result c.args.requests,
      c.requires.few,
    )

pub invariant_of-known-clause-changes : goal.invariant_of-known-clause-changes
invariant_of-known-clause-changes c =
    subst (λ (l : List Request). All (λ (r : Request). length r.changes ≤ MAX_CHANGES) l)
    (sym c.in_ok-first.ensures.first)
    (All-take (λ (r : Request). length r.changes ≤ MAX_CHANGES) _ c.args.requests
    c.requires.changes)

pub learn-requires-clause-changes : goal.learn-requires-clause-changes
learn-requires-clause-changes c =
    subst (λ (l : List Request). All (λ (r : Request). length r.changes ≤ MAX_CHANGES) l)
    (sym c.in_ok-first.ensures.second)
    (All-drop (λ (r : Request). length r.changes ≤ MAX_CHANGES) _ c.args.requests
    c.requires.changes)

pub returns-in_err-stream-clause-fault : goal.returns-in_err-stream-clause-fault
returns-in_err-stream-clause-fault c =
    let p = err_from_is_err_and c.from_residual-in_err-stream.result
    c.from_residual-in_err-stream.ensures.1 in
    let first_is : c.in_ok-first.first ≡ take c.args.save.read c.args.requests =
    c.in_ok-first.ensures.first ∙ (ap (λ n. take n c.args.requests) c.read_of-read.ensures
    ∙ take_min c.args.save.read c.args.requests) in
    rw (p.1, p.2) (λ other splits mask. gone_fault _ _ _ _ _ _ first_is
    (c.in_err-stream.ensures.fault other splits mask))

pub returns-clause-resumed : goal.returns-clause-resumed
returns-clause-resumed c =
    let first_is : c.in_ok-first.first ≡ take c.args.save.read c.args.requests =
    c.in_ok-first.ensures.first ∙ (ap (λ n. take n c.args.requests) c.read_of-read.ensures
    ∙ take_min c.args.save.read c.args.requests) in
    subst (λ (l : List Request). IsResumed (job_view c.args.job)
    (judged_in c.in_ok-stream-2.field-0.stream l).accepted c.args.mode.ordered c.args.save
    (setup_view c.in_ok-stream-2.field-0.stream.setup)) first_is
    (subst (λ (s : Setup). IsResumed (job_view c.args.job)
    (judged_within (Some s.splits) (job_view s.job) c.in_ok-first.first).accepted c.args.mode.ordered
    c.args.save (setup_view s)) (sym c.in_ok-stream-2.ensures.setup)
    c.in_ok-stream.ensures.resumed)

pub returns-clause-is_known : goal.returns-clause-is_known
returns-clause-is_known c =
    let all_are : c.in_ok-first.first ++ c.in_ok-first.later ≡ c.args.requests =
    ap (λ (l : List Request). l ++ c.in_ok-first.later) c.in_ok-first.ensures.first
    ∙ (ap (λ (l : List Request). take c.read_of-read.result c.args.requests ++ l)
    c.in_ok-first.ensures.second ∙ take-append-drop c.read_of-read.result c.args.requests) in
    subst (λ (l : List Request). IsKnownTo l c.in_ok-stream-2.field-0.stream) all_are
    c.in_ok-stream-2.ensures.is_known

pub returns-clause-pending : goal.returns-clause-pending
returns-clause-pending c =
    let all_are : c.in_ok-first.first ++ c.in_ok-first.later ≡ c.args.requests =
    ap (λ (l : List Request). l ++ c.in_ok-first.later) c.in_ok-first.ensures.first
    ∙ (ap (λ (l : List Request). take c.read_of-read.result c.args.requests ++ l)
    c.in_ok-first.ensures.second ∙ take-append-drop c.read_of-read.result c.args.requests) in
    let old = c.in_ok-stream.stream in
    c.in_ok-stream-2.ensures.pending
    ∙ (gone_pending c.later_requests_are_judged_later.ensures old c.args.save.start.turned
    c.in_ok-first.first c.in_ok-first.later c.args.requests old.pending
    (sym all_are) c.in_ok-stream.ensures.enough
    c.in_ok-stream.ensures.pending
    ∙ sym (ap (λ (j : Judged). drop c.args.save.start.turned j.accepted)
    (judged_alike old c.in_ok-stream-2.field-0.stream c.args.requests
    c.in_ok-stream-2.ensures.setup)))

pub returns-clause-refused : goal.returns-clause-refused
returns-clause-refused c =
    let first_is : c.in_ok-first.first ≡ take c.args.save.read c.args.requests =
    c.in_ok-first.ensures.first ∙ (ap (λ n. take n c.args.requests) c.read_of-read.ensures
    ∙ take_min c.args.save.read c.args.requests) in
    let all_are : c.in_ok-first.first ++ c.in_ok-first.later ≡ c.args.requests =
    ap (λ (l : List Request). l ++ c.in_ok-first.later) c.in_ok-first.ensures.first
    ∙ (ap (λ (l : List Request). take c.read_of-read.result c.args.requests ++ l)
    c.in_ok-first.ensures.second ∙ take-append-drop c.read_of-read.result c.args.requests) in
    let old = c.in_ok-stream.stream in
    c.in_ok-stream-2.ensures.refused
    ∙ (ap (refused_after old c.in_ok-first.first) all_are
    ∙ (ap (λ (l : List Request). refused_after old l c.args.requests) first_is
    ∙ ap (λ (s : Setup). drop (length (judged_within (Some s.splits) (job_view s.job)
    (take c.args.save.read c.args.requests)).refused)
    (judged_within (Some s.splits) (job_view s.job) c.args.requests).refused)
    (sym c.in_ok-stream-2.ensures.setup)))

pub returns-clause-exact : goal.returns-clause-exact
returns-clause-exact c =
    rw (c.in_ok-stream-2.ensures.exact, c.in_ok-stream-2.ensures.start)
    c.in_ok-stream.ensures.exact
