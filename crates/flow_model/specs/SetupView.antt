-- Setups as the definitions of a run see them.
use Rattle.std.specs.Prelude.{ℕ, Bool, List}
use Rattle.cover_planner.specs.declared.cover.Plan.{Plan}
use Rattle.jobs.specs.JobView.{JobView}
use Rattle.jobs.specs.declared.func.Func.{Func}
use Rattle.versions.specs.declared.request.Request.{Request}

-- A setup: the job as it is written, the accepted requests and the plan of each, the mask of the
-- nodes that may make pieces of a tuple, and whether rows and requests are to have one order.
pub record SetupView : Type 0 where
  pub job : JobView
  pub requests : List Request
  pub plans : List Plan
  pub splits : ℕ
  pub ordered : Bool

-- the setup with these parts
abbrev pub setup_view_of : JobView → List Request → List Plan → ℕ → Bool → SetupView
setup_view_of job requests plans splits ordered =
    record { job = job; requests = requests; plans = plans; splits = splits; ordered = ordered }

-- the mask of the nodes that may make pieces of a tuple
abbrev pub splits_of : SetupView → ℕ
splits_of setup = setup.splits

-- A worker: its number, its node, its place among the workers of the node, and the function that
-- the job gives the node.
pub record Worker : Type 0 where
  pub number : ℕ
  pub node : ℕ
  pub place : ℕ
  pub func : Func
