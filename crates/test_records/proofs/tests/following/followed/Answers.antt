use Rattle.std.proofs.Common.{◌≡◌, ◌++◌, List, Some, subst, sym}
use Rattle.std.specs.Prelude.{IsTrue}
use Rattle.jobs.specs.Job.{job_view}
use Rattle.versions.specs.Judged.{AreAccepted}
use Rattle.versions.specs.declared.in_order.Judged.{Judged}
use Rattle.versions.specs.declared.request.Request.{Request}
use Rattle.flow_model.specs.Planned.{is_made_split}
use Rattle.test_records.proofs.tests.following.followed.Goals as goal

pub follow-requires-clause-accepted : goal.follow-requires-clause-accepted
follow-requires-clause-accepted c =
    let setup = c.in_ok-setup.setup in
    let job = job_view setup.job in
    let later = c.in_ok-later.later in
    let of = c.in_ok-later.ensures in
    subst (λ (rs : List Request). AreAccepted job (rs ++ later.accepted)) (sym c.in_ok-setup.ensures)
    (subst (λ (j : Judged). AreAccepted job j.accepted) (sym of.1) (c.accepted_requests_stay_accepted.ensures (Some setup.splits) job of.0))

pub follow-requires-clause-splits : goal.follow-requires-clause-splits
follow-requires-clause-splits c = λ node made.
    let setup = c.in_ok-setup.setup in
    let of = c.in_ok-later.ensures in
    c.accepted_requests_split_within.ensures setup.splits (job_view setup.job) of.0 node (subst (λ (j : Judged). IsTrue (is_made_split j.accepted node)) of.1 made)
