use Rattle.std.proofs.Common.{refl}
use Rattle.flow_model.specs.Setup.{setup_view}
use Rattle.flow_model.proofs.HeadLemmas.{head_unentered}
use Rattle.flow_model.proofs.PlannedLemmas.{has_covers}
use Rattle.flow_model.proofs.laws.heads_are_unentered.Goals as goal

pub returns-clause-covered : goal.returns-clause-covered
returns-clause-covered c request node head = (has_covers (setup_view c.args.setup.now) c.args.setup.now.planned).heads request node head

pub returns-clause-unentered : goal.returns-clause-unentered
returns-clause-unentered c request number edge there head =
    head_unentered (setup_view c.args.setup.now) c.args.setup.now.planned request edge.to number edge head there refl
