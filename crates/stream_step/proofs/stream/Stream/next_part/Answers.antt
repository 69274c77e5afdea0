use Rattle.std.proofs.Common.{◌≡◌, ◌∙◌, ◌≤◌, ◌++◌, List, ap, arith, length, map, subst, sym, true}
use Rattle.std.proofs.lemmas.List.{length-append}
use Rattle.jobs.specs.Job.{job_view}
use Rattle.versions.specs.Judged.{AreAccepted}
use Rattle.versions.specs.declared.request.Request.{Request}
use Rattle.flow_model.specs.Begin.{Begin}
use Rattle.flow_model.specs.Planned.{IsFollowed}
use Rattle.flow_model.specs.Setup.{setup_view}
use Rattle.flow_model.specs.SetupView.{SetupView}
use Rattle.flow_model.specs.Workers.{workers_in}
use Rattle.stream_step.specs.Parts.{due_in, left_by_parts}
use Rattle.stream_step.specs.Pending.{AreAsked, SplitWithin, issued_by, kept_by, lifted}
use Rattle.stream_step.proofs.PendingLemmas.{are_fed, issued_accepted, issued_asked, issued_fed}
use Rattle.stream_step.proofs.PendingLemmas.{issued_within, kept_accepted, kept_within}
use Rattle.stream_step.proofs.stream.Stream.next_part.Goals as goal

pub follow-requires-clause-accepted : goal.follow-requires-clause-accepted
follow-requires-clause-accepted c =
    let self = c.args.self in
    subst (λ (l : List Request). AreAccepted (job_view self.setup.job)
    (self.setup.judged.accepted ++ l))
    (sym (c.in_ok-due.ensures.due ∙ ap (λ (b : Begin). map (lifted b.row)
    (issued_by self.exact b.row c.args.last self.pending)) c.start.view_is))
    (issued_accepted c.accepted_requests_are_in_order.ensures
    c.later_requests_are_judged_later.ensures (job_view self.setup.job) self.exact self.start.row
    c.args.last self.setup.judged.accepted self.pending c.requires self.setup.accepted
    self.accepted)

pub follow-requires-clause-splits : goal.follow-requires-clause-splits
follow-requires-clause-splits c =
    let self = c.args.self in
    subst (λ (l : List Request). SplitWithin self.setup.splits l)
    (sym (c.in_ok-due.ensures.due ∙ ap (λ (b : Begin). map (lifted b.row)
    (issued_by self.exact b.row c.args.last self.pending)) c.start.view_is))
    (issued_within self.setup.splits self.exact self.start.row c.args.last self.pending
    self.within)

pub invariant_of-result : goal.invariant_of-result
invariant_of-result c =
    let self = c.args.self in
    let setup = c.in_ok-setup.setup in
    let taken : List Request = self.setup.judged.accepted in
    let due : List Request = map (lifted self.start.row) (due_in self c.args.last) in
    let due_is : c.in_ok-due.field-0.due ≡ due =
    c.in_ok-due.ensures.due ∙ ap (λ (b : Begin). map (lifted b.row)
    (issued_by self.exact b.row c.args.last self.pending)) c.start.view_is in
    let left_is : c.in_ok-due.field-0.left ≡ left_by_parts self c.args.last =
    c.in_ok-due.ensures.left ∙ ap (λ (b : Begin). kept_by self.exact b.row c.args.last
    self.pending) c.start.view_is in
    let is = c.in_ok-setup.ensures.followed.extended_is in
    let all_are : setup.judged.accepted ≡ taken ++ due =
    ap (λ (s : SetupView). s.requests) is ∙ ap (λ (l : List Request). taken ++ l) due_is in
    let job_is : job_view setup.job ≡ job_view self.setup.job = ap (λ (s : SetupView). s.job) is in
    let splits_are : setup.splits ≡ self.setup.splits = ap (λ (s : SetupView). s.splits) is in
    let le : self.start.row ≤ c.args.last = c.requires in
    record {
      within = le;
      turned = omega (
        arith,
        self.turned,
        ap (λ (l : List Request). length l) all_are,
        length-append
            taken due,
      );
      states = self.states ∙ sym (ap (λ j. length (workers_in j)) job_is);
      due = subst (λ (l : List Request). are_fed c.args.last l ≡ true) (sym all_are)
          (issued_fed self.exact self.start.row c.args.last taken self.pending le self.due);
      accepted =
          subst (λ (l : List Request). AreAccepted (job_view setup.job)
          (setup.judged.accepted ++ map (lifted c.args.last) l)) (sym left_is)
          (subst (λ (l : List Request). AreAccepted (job_view setup.job)
          (l ++ map (lifted c.args.last) (left_by_parts self c.args.last))) (sym all_are)
          (subst (λ j. AreAccepted j ((taken ++ due) ++ map (lifted c.args.last)
          (left_by_parts self c.args.last))) (sym job_is)
          (kept_accepted c.accepted_requests_are_in_order.ensures
          c.accepted_requests_may_wait.ensures (job_view self.setup.job) self.exact
          self.start.row c.args.last taken self.pending le self.setup.accepted self.due
          self.accepted)));
      splits =
          subst (λ k. SplitWithin k c.in_ok-due.field-0.left) (sym splits_are)
          (subst (λ (l : List Request). SplitWithin self.setup.splits l) (sym left_is)
          (kept_within self.setup.splits self.exact self.start.row c.args.last self.pending
          self.within));
    }

pub returns-clause-followed : goal.returns-clause-followed
returns-clause-followed c =
    let self = c.args.self in
    let due_is =
    c.in_ok-due.ensures.due ∙ ap (λ (b : Begin). map (lifted b.row)
    (issued_by self.exact b.row c.args.last self.pending)) c.start.view_is in
    subst (λ (l : List Request). IsFollowed (setup_view self.setup) l
    (setup_view c.in_ok-setup.setup)) due_is c.in_ok-setup.ensures.followed

pub returns-clause-pending : goal.returns-clause-pending
returns-clause-pending c =
    let self = c.args.self in
    c.in_ok-due.ensures.left ∙ ap (λ (b : Begin). kept_by self.exact b.row c.args.last
    self.pending) c.start.view_is

pub returns-clause-asked : goal.returns-clause-asked
returns-clause-asked c all asked =
    let self = c.args.self in
    let setup = c.in_ok-setup.setup in
    let is = c.in_ok-setup.ensures.followed.extended_is in
    let left_is : c.in_ok-due.field-0.left ≡ left_by_parts self c.args.last =
    c.in_ok-due.ensures.left ∙ ap (λ (b : Begin). kept_by self.exact b.row c.args.last
    self.pending) c.start.view_is in
    let all_are : setup.judged.accepted ≡ self.setup.judged.accepted
    ++ map (lifted self.start.row) (due_in self c.args.last) =
    ap (λ (s : SetupView). s.requests) is
    ∙ ap (λ (l : List Request). self.setup.judged.accepted ++ l)
    (c.in_ok-due.ensures.due ∙ ap (λ (b : Begin). map (lifted b.row)
    (issued_by self.exact b.row c.args.last self.pending)) c.start.view_is) in
    let job_is : job_view setup.job ≡ job_view self.setup.job = ap (λ (s : SetupView). s.job) is in
    subst (λ (l : List Request). AreAsked (job_view setup.job) setup.judged.accepted l all)
    (sym left_is)
    (subst (λ (l : List Request). AreAsked (job_view setup.job) l
    (left_by_parts self c.args.last) all) (sym all_are)
    (subst (λ j. AreAsked j (self.setup.judged.accepted ++ map (lifted self.start.row)
    (due_in self c.args.last)) (left_by_parts self c.args.last) all) (sym job_is)
    (issued_asked c.accepted_requests_are_in_order.ensures (job_view self.setup.job) self.exact
    self.start.row c.args.last self.setup.judged.accepted self.pending all c.requires
    self.accepted asked)))
