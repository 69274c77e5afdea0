use Rattle.flow_model.specs.Setup.{setup_view}
use Rattle.flow_worker.proofs.Overtaking.{turns_next}
use Rattle.flow_worker.proofs.laws.control_overtakes_tuples.Goals as goal

pub returns : goal.returns
returns c = turns_next (setup_view c.args.setup.now) c.args.setup.now.planned
