use Rattle.std.proofs.Common.{◌∙◌, ap, sym}
use Rattle.std.proofs.lemmas.Option.{slice_get_within}
use Rattle.std.proofs.lemmas.Result.{IfOk-weaker}
use Rattle.lane_core.specs.Lane.{EndpointIs}
use Rattle.flow_model.specs.Setup.{setup_view}
use Rattle.flow_crew.proofs.Making.{both_ok, lane_edge, new_at}
use Rattle.flow_crew.proofs.all_endpoints.make_lane.Goals as goal

pub edge-from-requires : goal.edge-from-requires
edge-from-requires g c =
    let job = (setup_view c.args.setup.now).job in
    let (edge, at) = lane_edge job c.args.number c.lane-lane.result c.lane-lane.ensures.lane in
    slice_get_within job.edges c.lane-lane.result.edge edge at

pub returns-clause-tx : goal.returns-clause-tx
returns-clause-tx g c =
    IfOk-weaker c.make.result _ _ (λ x h.
    new_at (setup_view c.args.setup.now).job c.args.graph c.args.number c.lane-lane.result c.edge-from.result (g.L.Tx.Tx.state x.0)
    c.lane-lane.ensures.lane c.edge-from.ensures (ap (λ (e : EndpointIs). e.items) h) (ap (λ (e : EndpointIs). e.number) h) (ap (λ (e : EndpointIs). e.origin) h)) c.make.ensures.tx

pub returns-clause-rx : goal.returns-clause-rx
returns-clause-rx g c =
    IfOk-weaker c.make.result _ _ (λ x p.
    let h = p.1 ∙ p.0 in
    new_at (setup_view c.args.setup.now).job c.args.graph c.args.number c.lane-lane.result c.edge-from.result (g.L.Rx.Rx.state x.1)
    c.lane-lane.ensures.lane c.edge-from.ensures (ap (λ (e : EndpointIs). e.items) h) (ap (λ (e : EndpointIs). e.number) h) (ap (λ (e : EndpointIs). e.origin) h))
    (both_ok _ _ c.make.result c.make.ensures.tx c.make.ensures.rx)

pub returns-clause-lane : goal.returns-clause-lane
returns-clause-lane g c = IfOk-weaker c.make.result _ _ (λ x h. ap (λ (e : EndpointIs). e.lane) (sym h)) c.make.ensures.rx
