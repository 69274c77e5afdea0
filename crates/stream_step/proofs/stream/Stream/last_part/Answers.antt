use Rattle.std.proofs.Common.{◌≡◌, ◌∙◌, ◌++◌, List, ap, arith, length, map, subst, sym}
use Rattle.std.proofs.lemmas.List.{length-append}
use Rattle.jobs.specs.Job.{job_view}
use Rattle.versions.specs.Judged.{AreAccepted}
use Rattle.versions.specs.declared.request.Request.{Request}
use Rattle.flow_model.specs.Begin.{Begin}
use Rattle.flow_model.specs.Planned.{IsFollowed}
use Rattle.flow_model.specs.Setup.{setup_view}
use Rattle.flow_model.specs.SetupView.{SetupView}
use Rattle.flow_model.specs.Workers.{workers_in}
use Rattle.stream_step.specs.Pending.{SplitWithin, lifted}
use Rattle.stream_step.proofs.PendingLemmas.{within_lifted}
use Rattle.stream_step.proofs.stream.Stream.last_part.Goals as goal

pub follow-requires-clause-accepted : goal.follow-requires-clause-accepted
follow-requires-clause-accepted c =
    let self = c.args.self in
    subst (λ (l : List Request). AreAccepted (job_view self.setup.job)
    (self.setup.judged.accepted ++ l))
    (sym (c.in_ok-all_lifted.ensures
    ∙ ap (λ (b : Begin). map (lifted b.row) self.pending) c.start.view_is)) self.accepted

pub follow-requires-clause-splits : goal.follow-requires-clause-splits
follow-requires-clause-splits c =
    let self = c.args.self in
    subst (λ (l : List Request). SplitWithin self.setup.splits l)
    (sym (c.in_ok-all_lifted.ensures
    ∙ ap (λ (b : Begin). map (lifted b.row) self.pending) c.start.view_is))
    (within_lifted self.setup.splits self.start.row self.pending self.within)

pub invariant_of-result : goal.invariant_of-result
invariant_of-result c =
    let self = c.args.self in
    let setup = c.in_ok-setup.setup in
    let taken : List Request = self.setup.judged.accepted in
    let is = c.in_ok-setup.ensures.followed.extended_is in
    let all_are : setup.judged.accepted ≡ taken ++ c.in_ok-all_lifted.field-0 =
    ap (λ (s : SetupView). s.requests) is in
    let job_is : job_view setup.job ≡ job_view self.setup.job = ap (λ (s : SetupView). s.job) is in
    record {
      turned = omega (
        arith,
        self.turned,
        ap (λ (l : List Request). length l) all_are,
        length-append
            taken c.in_ok-all_lifted.field-0,
      );
      states = self.states ∙ sym (ap (λ j. length (workers_in j)) job_is);
    }

pub returns-clause-followed : goal.returns-clause-followed
returns-clause-followed c =
    let all_are =
    c.in_ok-all_lifted.ensures ∙ ap (λ (b : Begin). map (lifted b.row) c.args.self.pending)
    c.start.view_is in
    subst (λ (l : List Request). IsFollowed (setup_view c.args.self.setup) l
    (setup_view c.in_ok-setup.setup)) all_are c.in_ok-setup.ensures.followed
