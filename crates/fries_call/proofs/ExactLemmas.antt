-- Setups that are seen as one are both that of a job and its requests.
use Rattle.std.proofs.Common.{◌≡◌, ◌∙◌, Bool, List, All, ap, subst, sym}
use Rattle.jobs.specs.JobView.{JobView}
use Rattle.versions.specs.declared.request.Request.{Request}
use Rattle.flow_model.specs.Least.{ArePlansLeast}
use Rattle.flow_model.specs.Planned.{IsExact}
use Rattle.flow_model.specs.Setup.{setup_view}
use Rattle.flow_model.specs.SetupView.{SetupView}
use Rattle.flow_model.specs.declared.setup.Setup.{Setup}
use Rattle.flow_laws.specs.Determined.{NumbersAllNodes}
use Rattle.fries_steps.specs.SetupFor.{AreSame, IsSetupFor}

pub setup_seen : (ordered : Bool) (job : JobView) (requests : List Request) (setup left : Setup) →
    IsSetupFor AreSame ordered job requests setup → setup_view left ≡ setup_view setup →
    left.judged.refused ≡ setup.judged.refused → IsSetupFor AreSame ordered job requests left
setup_seen ordered job requests setup left is same refused = record {
  job_is = ap (λ (v : SetupView). v.job) same ∙ is.job_is;
  accepted = ap (λ (v : SetupView). v.requests) same ∙ is.accepted;
  refused = refused ∙ is.refused;
  exact = subst IsExact (sym same) is.exact;
  least = subst ArePlansLeast (sym same) is.least;
  numbers = subst (All NumbersAllNodes) (sym (ap (λ (v : SetupView). v.plans) same)) is.numbers;
  mode = ap (λ (v : SetupView). v.ordered) same ∙ is.mode;
}
