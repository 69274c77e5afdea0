use Rattle.std.proofs.lemmas.Option.{slice_get-get_or}
use Rattle.flow_model.specs.Begin.{at_first}
use Rattle.flow_model.specs.Setup.{setup_view}
use Rattle.test_actors.proofs.Crewing.{workers_set}
use Rattle.test_actors.proofs.tests.turns.turn_at.Goals as goal

pub turn-requires-clause-law : goal.turn-requires-clause-law
turn-requires-clause-law g c κs within =
    (at_first (setup_view c.args.setup.now), c.requires.law c.args.number _ (slice_get-get_or c.args.workers.now c.args.number c.index-workers-number.result c.requires.within))

pub returns : goal.returns
returns g c =
    let setup = setup_view c.args.setup.now in
    workers_set setup c.args.workers.now c.args.number c.turn.new.self c.requires.law
    (c.turn.ensures.law (at_first setup) (c.requires.law c.args.number _ (slice_get-get_or c.args.workers.now c.args.number c.index-workers-number.result c.requires.within)))
