use Rattle.std.proofs.Common.{◌∙◌, ap, sym}
use Rattle.std.proofs.lemmas.Option.{get_or_from_slice_get}
use Rattle.flow_model.specs.Covers.{covers_edge}
use Rattle.flow_model.specs.Lanes.{lanes, no_lane}
use Rattle.flow_model.specs.Setup.{setup_view}
use Rattle.flow_model.specs.declared.topology.Lane.{Lane}
use Rattle.flow_replay.specs.declared.replaying.Onto.{Onto}
use Rattle.flow_replay.specs.inner.Replays.{reaches}
use Rattle.flow_replay.proofs.replaying.is_reached.Goals as goal

pub returns-in-Covered : goal.returns-in-Covered
returns-in-Covered c =
    let setup = setup_view c.args.setup.now in
    c.covers_edge.ensures
    ∙ (ap (λ (l : Lane). covers_edge setup c.in-Covered.request l.edge) (sym (get_or_from_slice_get
    (lanes setup.job) c.args.number c.lane.result no_lane c.lane.ensures.lane))
    ∙ ap (λ (o : Onto). reaches setup o c.args.number) (sym c.in-Covered.is))
