-- What a feeder begins with.
use Rattle.std.specs.Prelude.{◌≡◌, ℕ, List, [], length, map, None, Some, slice_get}
use Rattle.control_box.specs.Endpoints.{PosterIs}
use Rattle.flow_dag.specs.declared.graph.Graph.{Graph}
use Rattle.jobs.specs.JobView.{JobView}
use Rattle.lane_core.specs.Lane.{EndpointIs}
use Rattle.flow_model.specs.Agreement.{IsGraphOf}
use Rattle.flow_model.specs.Lanes.{is_same_sender, lanes_that}
use Rattle.flow_model.specs.NewEndpoint.{IsNewEndpoint}
use Rattle.flow_model.specs.SetupView.{SetupView}
use Rattle.flow_model.specs.declared.topology.Lane.{Lane}
use Rattle.flow_model.specs.Workers.{workers_in}

-- the ends of a new feeder: those of the lanes of all sources, in the order of their numbers
pub record AreNewOuts (job : JobView) (outs : List EndpointIs) : Type 0 where
  pub graph : Graph
  pub graph_is : IsGraphOf job graph
  pub numbers_are : map (λ (out : EndpointIs). out.number) outs ≡ lanes_that (λ (lane : Lane).
      is_same_sender None lane.sender) job
  pub new : (k : ℕ) (out : EndpointIs) → slice_get outs k ≡ Some out → IsNewEndpoint job graph out

-- the boxes of all workers, to which nothing was posted and of which nothing was loaded
abbrev pub AreUnused : SetupView → List PosterIs → Type 0
AreUnused setup posters =
    (length posters ≡ length (workers_in setup.job)) × ((w : ℕ) (p : PosterIs)
    → slice_get posters w ≡ Some p → (p.posted ≡ 0) × (p.loads ≡ []))
