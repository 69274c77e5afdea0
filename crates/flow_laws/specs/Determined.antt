-- What determines plans and setups.
use Rattle.std.specs.Prelude.{◌≡◌, All, length}
use Rattle.cover_planner.specs.declared.cover.Plan.{Plan}
use Rattle.flow_model.specs.Planned.{IsExact}
use Rattle.flow_model.specs.SetupView.{SetupView}
use Rattle.flow_dag.specs.declared.limits.TheConstants.{MAX_NODES}

-- the plan has a number for each of 64 nodes, as its type does
abbrev pub NumbersAllNodes : Plan → Type 0
NumbersAllNodes plan = length plan.part ≡ MAX_NODES

-- the setup has exactly the planner's plans, and each numbers all nodes
pub record HasExactPlans (setup : SetupView) : Type 0 where
  pub exact : IsExact setup
  pub numbers : All NumbersAllNodes setup.plans
