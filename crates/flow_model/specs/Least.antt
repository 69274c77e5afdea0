-- What the plans of a setup are worth.
use Rattle.std.specs.Prelude.{◌≡◌, ℕ, List, Some}
use Rattle.cover_planner.specs.Plan.{HasAllPaths, IsLeast}
use Rattle.cover_planner.specs.declared.cover.Plan.{Plan}
use Rattle.flow_dag.specs.declared.edge.Edge.{Edge}
use Rattle.flow_model.specs.SetupView.{SetupView}
use Rattle.flow_model.specs.Covers.{plan_of}

-- the plan is the least cover of its members: it holds every path between them, and whatever does
-- holds it
pub record IsLeastCover (edges : List Edge) (plan : Plan) : Type 0 where
  pub paths : HasAllPaths edges plan
  pub least : IsLeast edges plan

-- the plan of each request is the least cover of its members
abbrev pub ArePlansLeast : SetupView → Type 0
ArePlansLeast setup =
    (request : ℕ) (plan : Plan) → plan_of setup request ≡ Some plan
    → IsLeastCover setup.job.edges plan
