use Rattle.std.proofs.Common.{◌≡◌, ◌∙◌, [], List, None, ap, refl, subst, sym}
use Rattle.jobs.specs.Job.{job_view}
use Rattle.jobs.specs.JobView.{JobView}
use Rattle.versions.specs.Judged.{AreAccepted, judged, judged_from}
use Rattle.versions.specs.declared.in_order.Judged.{Judged}
use Rattle.versions.specs.declared.request.Request.{Request}
use Rattle.test_records.proofs.tests.following.begun.Goals as goal

none_accepted : (job : JobView) → (judged job []).accepted ≡ []
unfolding judged_from
none_accepted job = refl

pub make_for_stream-requires : goal.make_for_stream-requires
make_for_stream-requires c =
    let job = job_view c.args.job in
    subst (λ (j : Judged). AreAccepted job j.accepted) (sym c.in-Ok.ensures) (c.accepted_requests_stay_accepted.ensures None job _)

pub returns-in-Ok-make_for_stream : goal.returns-in-Ok-make_for_stream
returns-in-Ok-make_for_stream c =
    let job = job_view c.args.job in
    ap (λ (j : Judged). j.accepted) (c.in-Ok-make_for_stream.ensures.judged ∙ c.in-Ok.ensures)
    ∙ (ap (λ (rs : List Request). (judged job rs).accepted) c.new.ensures ∙ none_accepted job)
