use Rattle.std.proofs.Common.{List, [], subst, sym}
use Rattle.std.proofs.Math.Logic.{∥∥₁_map}
use Rattle.cover_planner.specs.declared.cover.Plan.{Plan}
use Rattle.jobs.specs.Job.{job_view}
use Rattle.versions.specs.Judged.{AreAccepted}
use Rattle.versions.specs.declared.request.Request.{Request}
use Rattle.flow_model.specs.Planned.{IsPlanned}
use Rattle.flow_model.specs.Setup.{setup_view}
use Rattle.flow_model.specs.SetupView.{setup_view_of}
use Rattle.savepoint.proofs.CutLemmas.{AreAccepted-take, IsPlanned-first_of}
use Rattle.flow_exact.proofs.waiting.take_requests.Goals as goal

pub invariant_of-setup : goal.invariant_of-setup
invariant_of-setup c =
    let setup = c.args.setup in
    let job = job_view setup.job in
    record {
      topology_is = setup.topology_is;
      accepted = subst (λ (l : List Request). AreAccepted job l) (sym c.new.ensures)
          (AreAccepted-take job 0 setup.judged.accepted setup.accepted);
      planned = ∥∥₁_map setup.planned (λ is.
          subst (λ (plans : List Plan). IsPlanned (setup_view_of job c.new.result plans setup.splits
          setup.ordered)) (sym c.new-2.ensures)
          (subst (λ (l : List Request). IsPlanned (setup_view_of job l [] setup.splits
          setup.ordered)) (sym c.new.ensures)
          (IsPlanned-first_of (setup_view setup) 0 is)));
    }
