-- The numbers of a worker's edges are small.
use Rattle.std.proofs.Common.{◌<◌, ℕ, List, [], ◌∷◌, arith}
use Rattle.std.proofs.lemmas.Option.{slice_get_within}
use Rattle.flow_dag.specs.declared.graph.Graph.{Graph}
use Rattle.jobs.specs.Law.{IsLawful}
use Rattle.flow_model.specs.SetupView.{SetupView}
use Rattle.flow_model.proofs.LaneLemmas.{lane_is}
use Rattle.flow_worker.specs.Pairs.{EachOne}
use Rattle.flow_worker.specs.Endpoints.{LaneOutIs}
use Rattle.flow_worker.specs.Worker.{IsEndpointOut}

pub outs_small : (setup : SetupView) (graph : Graph) (node : ℕ) (outs : List LaneOutIs) → IsLawful setup.job → EachOne (IsEndpointOut setup graph node) outs → EachOne (λ (o : LaneOutIs). o.edge < 128) outs
outs_small setup graph node [] law e = tt
outs_small setup graph node (o ∷ more) law e =
    let is = lane_is setup.job o.number e.0.lane e.0.numbered in
    (omega (arith, e.0.edge_is, slice_get_within setup.job.edges e.0.lane.edge is.edge is.edge_is, law.limits.edges), outs_small setup graph node more law e.1)
