use Rattle.flow_model.specs.Setup.{setup_view}
use Rattle.coordinator.proofs.Asking.{may_post_all}
use Rattle.coordinator.proofs.boxes.issue_all.Goals as goal

pub post_all-requires-clause-ready : goal.post_all-requires-clause-ready
post_all-requires-clause-ready c = may_post_all (setup_view c.args.setup.now) c.args.setup.now.planned c.args.request c.args.covered.now c.count.new.covered c.args.posters.now c.count.ensures c.requires.ready
