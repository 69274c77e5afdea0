use Rattle.flow_dag.specs.Masks.{Has}
use Rattle.flow_laws.proofs.PlanLemmas.{one_plan}
use Rattle.flow_laws.proofs.plans.plans_are_determined.Goals as goal

pub returns : goal.returns
returns c edges splits copies asked first second long also is same =
    one_plan edges (Has splits) (Has copies) asked first second long also is same
