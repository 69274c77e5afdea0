use Rattle.std.proofs.Common.{◌++◌, List, map, subst, sym}
use Rattle.jobs.specs.Job.{job_view}
use Rattle.versions.specs.Judged.{AreAccepted}
use Rattle.versions.specs.declared.request.Request.{Request}
use Rattle.stream_step.specs.Pending.{SplitWithin, lifted}
use Rattle.stream_step.proofs.PendingLemmas.{asked_more, more_accepted, within_both}
use Rattle.stream_step.proofs.stream.Stream.add.Goals as goal

pub invariant_of-result : goal.invariant_of-result
invariant_of-result c =
    let self = c.args.self in
    let asked = c.requires.accepted in
    record {
      turned = self.turned;
      states = self.states;
      due = self.due;
      accepted =
          subst (λ (l : List Request). AreAccepted (job_view self.setup.job)
          (self.setup.judged.accepted ++ map (lifted self.start.row) l))
          (sym c.in_ok-pending.ensures)
          (more_accepted c.accepted_requests_are_in_order.ensures
          c.accepted_requests_may_wait.ensures
          (job_view self.setup.job) self.start.row self.setup.judged.accepted self.pending asked.0
          c.args.later
          asked.1 asked.2 self.setup.accepted self.due);
      within =
          subst (λ (l : List Request). SplitWithin self.setup.splits l)
          (sym c.in_ok-pending.ensures)
          (within_both self.setup.splits self.pending c.args.later self.within c.requires.splits);
    }

pub returns-clause-asked : goal.returns-clause-asked
returns-clause-asked c all asked is =
    asked_more (job_view c.args.self.setup.job) c.args.self.setup.judged.accepted
    c.args.self.pending c.args.later c.in_ok-pending.pending all c.in_ok-pending.ensures asked
    is
