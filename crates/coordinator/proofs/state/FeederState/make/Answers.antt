use Rattle.std.proofs.Common.{◌≡◌, ◌≤◌, ◌∙◌, List, ap, arith, length, sym, subst}
use Rattle.std.specs.Prelude.{replicate}
use Rattle.std.proofs.lemmas.List.{length-map}
use Rattle.versions.specs.declared.request.Request.{Request}
use Rattle.flow_model.specs.Requests.{afters}
use Rattle.flow_model.specs.Setup.{setup_view}
use Rattle.flow_model.specs.declared.topology.Lane.{Lane}
use Rattle.flow_model.specs.declared.topology.Topology.{Topology}
use Rattle.coordinator.specs.Feeding.{places_after}
use Rattle.flow_model.specs.Begin.{at_first}
use Rattle.coordinator.proofs.LiveLemmas.{rising_last}
use Rattle.coordinator.proofs.Living.{live_first, new_first}
use Rattle.coordinator.proofs.Rests.{rising}
use Rattle.coordinator.proofs.Starting.{begins}
use Rattle.coordinator.proofs.Telling.{is_feeder}
use Rattle.coordinator.proofs.state.FeederState.make.Goals as goal

pub returns-clause-law : goal.returns-clause-law
returns-clause-law g c = λ begin rows a b.
    let setup = setup_view c.args.setup.now in
    let few : c.args.turned ≤ length (afters setup.requests) = subst (λ n. c.args.turned ≤ n) (sym (length-map setup.requests (λ (request : Request). request.after))) c.requires.turned in
    is_feeder setup begin rows _
    (begins setup begin (afters setup.requests) rows c.new.result.items c.of-2.result _ c.in_ok-boxes.boxes c.args.posters.items c.in_ok-places.places.items c.args.row c.args.turned
    (c.in_ok-places.ensures ∙ ap (λ (l : List Lane). places_after 0 l) (c.as_slice.ensures ∙ ap (λ (t : Topology). t.lanes) c.args.setup.now.topology_is)) c.new.ensures.items c.of-2.ensures c.in_ok-boxes.ensures a b
    (rising 0 setup.requests (c.accepted_requests_are_in_order.ensures setup.job setup.requests c.args.setup.now.accepted)) few c.requires.outs c.requires.boxes)

pub returns-clause-live : goal.returns-clause-live
returns-clause-live g c = λ no_row none_turned.
    let setup = setup_view c.args.setup.now in
    let few : length (setup_view c.args.setup.now).requests ≡ length (afters setup.requests) = sym (length-map setup.requests (λ (request : Request). request.after)) in (
      new_first c.new.result.items c.of-2.result c.in_ok-boxes.boxes c.in_ok-places.places.items c.args.row c.args.turned c.new.ensures.items no_row none_turned,
      λ loads rows. live_first setup rows loads c.new.result.items c.of-2.result c.in_ok-boxes.boxes c.in_ok-places.places.items c.args.row c.args.turned c.new.ensures.items no_row none_turned
          (begins setup (at_first setup) (replicate (length setup.requests) (length rows)) rows c.new.result.items c.of-2.result _ c.in_ok-boxes.boxes c.args.posters.items c.in_ok-places.places.items c.args.row c.args.turned
          (c.in_ok-places.ensures ∙ ap (λ (l : List Lane). places_after 0 l) (c.as_slice.ensures ∙ ap (λ (t : Topology). t.lanes) c.args.setup.now.topology_is)) c.new.ensures.items c.of-2.ensures c.in_ok-boxes.ensures (sym no_row) (sym none_turned)
          (rising_last 0 (length rows) (length setup.requests) (omega arith)) (omega (arith, none_turned)) c.requires.outs c.requires.boxes),
    )
