use Rattle.std.proofs.Common.{List, ap, arith, subst, sym}
use Rattle.std.proofs.Math.Logic.{∥∥₁_map}
use Rattle.jobs.specs.Job.{job_view}
use Rattle.versions.specs.Judged.{AreAccepted}
use Rattle.versions.specs.declared.request.Request.{Request}
use Rattle.flow_model.specs.SetupView.{setup_view_of}
use Rattle.flow_model.specs.Planned.{IsPlanned}
use Rattle.flow_model.specs.Setup.{setup_view}
use Rattle.flow_model.proofs.WaitingLemmas.{accepted_waiting, planned_waiting}
use Rattle.fries_verify.proofs.waits.with_waits.Goals as goal

pub with_afters-accepted-requires : goal.with_afters-accepted-requires
with_afters-accepted-requires c = omega (arith, c.requires.one_each)

pub invariant_of-result : goal.invariant_of-result
invariant_of-result c = record {
  topology_is = c.args.setup.topology_is;
  accepted = subst (AreAccepted (job_view c.args.setup.job)) (sym c.with_afters-accepted.ensures) (accepted_waiting (job_view c.args.setup.job) c.args.waits.now c.args.setup.judged.accepted c.args.setup.accepted c.requires.in_order);
  planned = ∥∥₁_map c.args.setup.planned (λ is.
      subst (λ (rs : List Request). IsPlanned (setup_view_of (job_view c.args.setup.job) rs c.args.setup.plans c.args.setup.splits c.args.setup.ordered)) (sym c.with_afters-accepted.ensures)
      (planned_waiting (setup_view c.args.setup) c.args.waits.now is));
}

pub returns-clause-view : goal.returns-clause-view
returns-clause-view c = ap (λ (rs : List Request). setup_view_of (job_view c.args.setup.job) rs c.args.setup.plans c.args.setup.splits c.args.setup.ordered) c.with_afters-accepted.ensures
