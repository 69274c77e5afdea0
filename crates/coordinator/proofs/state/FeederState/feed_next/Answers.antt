use Rattle.std.proofs.Common.{◌≡◌, ◌∙◌, ◌+◌, ◌<◌, ◌++◌, ◌∷◌, [], List, subst, sym, ap, Some, slice_get}
use Rattle.sink_journal.specs.declared.journal.Feed.{Feed}
use Rattle.sink_journal.specs.declared.journal.Feed.TheVariants.{Fed}
use Rattle.tuple_trace.specs.declared.tuple.Tuple.{Tuple}
use Rattle.flow_model.specs.Setup.{setup_view}
use Rattle.coordinator.specs.Feeding.{IsFeeding}
use Rattle.coordinator.proofs.Laying.{feed_idle, feed_moved, may_feed}
use Rattle.coordinator.proofs.state.FeederState.feed_next.Goals as goal

pub take_tuple-requires : goal.take_tuple-requires
take_tuple-requires g c = λ t h.
    let setup = setup_view c.args.setup.now in
    let row = c.in-Some.row.now in
    let at : slice_get c.args.rows.now c.self.inside.row ≡ Some row = c.in-Some.ensures.there in
    let law = subst (IsFeeding setup c.requires.law.0 c.requires.law.1 c.args.rows.now) (sym c.self.view_is) c.requires.law.2 in
    law.held t row h at

pub feed-requires-clause-steady : goal.feed-requires-clause-steady
feed-requires-clause-steady g c = λ o h.
    let setup = setup_view c.args.setup.now in
    let law = subst (IsFeeding setup c.requires.law.0 c.requires.law.1 c.args.rows.now) (sym c.self.view_is) c.requires.law.2 in
    let (lane, found, there) = c.place_of-place.ensures in
    let place = c.place_of-place.result in
    may_feed setup.job law.begun.graph place lane o _ c.args.setup.now.job.lawful
    law.begun.graph_is there (law.lanes.outs place lane o there h).endpoint
    (ap (λ (t : Tuple). t.trace) c.in-Ok.ensures.tuple.0 ∙ c.in-Some.ensures.row.unmoved)

pub returns-in-Err : goal.returns-in-Err
returns-in-Err g c =
    let setup = setup_view c.args.setup.now in
    let row = c.in-Some.row.now in
    let at : slice_get c.args.rows.now c.self.inside.row ≡ Some row = c.in-Some.ensures.there in
    feed_idle setup.job c.args.rows.now _ _ row c.place_of-place.result c.in-Ok.tuple c.in-Err.back c.feed.new.self c.reserve.new.self.items c.self.view_is c.reserve.ensures.items at c.place_of-place.ensures
    c.in-Ok.ensures.tuple.0 c.in-Err.ensures.full.0 c.in-Err.ensures.full.1

pub returns-in-Ok-feed : goal.returns-in-Ok-feed
returns-in-Ok-feed g c =
    let setup = setup_view c.args.setup.now in
    let row = c.in-Some.row.now in
    let at : slice_get c.args.rows.now c.self.inside.row ≡ Some row = c.in-Some.ensures.there in
    feed_moved setup.job c.args.rows.now _ _ row c.place_of-place.result c.in-Ok.tuple c.feed.new.self c.push_reserved.new.self.items c.take_tuple.new.held c.self.view_is
    (c.push_reserved.ensures.items ∙ ap (λ (fs : List Feed). fs ++ Fed (c.self.inside.row + 1) ∷ []) c.reserve.ensures.items) at c.place_of-place.ensures c.in-Ok.ensures.tuple.0 c.in-Ok.ensures.tuple.1 c.in-Ok-feed.ensures.put
