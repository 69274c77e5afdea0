-- The ranks of nodes, and where lanes begin.
use Rattle.std.proofs.Common.{◌≡◌, ◌<◌, ℕ, Some, arith, ap}
use Rattle.std.specs.Prelude.{slice_get}
use Rattle.std.proofs.lemmas.Option.{get_or_from_slice_get}
use Rattle.flow_dag.specs.declared.edge.Edge.{Edge}
use Rattle.flow_dag.specs.Dag.{DagView}
use Rattle.flow_dag.specs.Edges.{IsInside}
use Rattle.flow_dag.specs.Order.{place_of}
use Rattle.flow_dag.proofs.EdgeLemmas.{HasEdge-at}
use Rattle.flow_dag.proofs.PlaceLemmas.{place_of-below, place_of-forward}
use Rattle.jobs.specs.JobView.{JobView}
use Rattle.flow_model.specs.declared.topology.Lane.{Lane}
use Rattle.flow_model.proofs.ElementLemmas.{at_of_all, in_of_place}
use Rattle.flow_replay.specs.inner.Runs.{from_node}

-- ---- ranks

pub rank-forward : (dag : DagView) (i : ℕ) (edge : Edge) → slice_get dag.edges i ≡ Some edge →
    place_of dag.order edge.from < place_of dag.order edge.to
rank-forward dag i edge e =
    let inside = at_of_all (IsInside dag.nodes) edge dag.edges dag.lawful.inside (in_of_place edge
    dag.edges i e) in
    place_of-forward _ dag.nodes dag.order dag.lawful.ordered edge.from edge.to inside.0 inside.1
    (HasEdge-at dag.edges i edge e)

pub rank-below : (dag : DagView) (node : ℕ) → node < dag.nodes → place_of dag.order node < 64
rank-below dag node lt = let b = place_of-below _ dag.nodes dag.order dag.lawful.ordered node lt in
    let s = dag.lawful.size in omega (arith, b, s)

-- ---- lanes

pub from_node-is : (job : JobView) (lane : Lane) (edge : Edge) → slice_get job.edges lane.edge
    ≡ Some edge → from_node job lane ≡ edge.from
from_node-is job lane edge e = ap (λ (d : Edge). d.from) (get_or_from_slice_get job.edges lane.edge
    edge (record { from = 0; port = 0; to = 0 }) e)
