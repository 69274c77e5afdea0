use Rattle.flow_model.specs.Begin.{at_first}
use Rattle.flow_model.specs.Setup.{setup_view}
use Rattle.test_actors.proofs.tests.by_hand.finish_one.Goals as goal

pub finish-worked-requires-clause-room_in : goal.finish-worked-requires-clause-room_in
finish-worked-requires-clause-room_in g c κs up = (c.turn.ensures.law (at_first (setup_view c.args.setup.now)) c.requires).placed.ins.room

pub finish-worked-requires-clause-room_out : goal.finish-worked-requires-clause-room_out
finish-worked-requires-clause-room_out g c κs up = (c.turn.ensures.law (at_first (setup_view c.args.setup.now)) c.requires).placed.outs.room
