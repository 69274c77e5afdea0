-- The endpoint of a new lane of a job.
use Rattle.std.specs.Prelude.{◌≡◌, [], Some, slice_get}
use Rattle.flow_dag.specs.declared.edge.Edge.{Edge}
use Rattle.flow_dag.specs.declared.graph.Graph.{Graph}
use Rattle.jobs.specs.JobView.{JobView}
use Rattle.lane_core.specs.Lane.{EndpointIs}
use Rattle.flow_model.specs.Lanes.{lanes}
use Rattle.flow_model.specs.declared.topology.Lane.{Lane}

-- a new endpoint of a lane of the job: no item went by it, and its origin is the edge's sender
pub record IsNewEndpoint (job : JobView) (graph : Graph) (end : EndpointIs) : Type 0 where
  pub lane : Lane
  pub edge : Edge
  pub numbered : slice_get (lanes job) end.number ≡ Some lane
  pub edge_is : slice_get job.edges lane.edge ≡ Some edge
  pub origin_is : end.origin ≡ record { graph = graph; from = edge.from }
  pub empty : end.items ≡ []
