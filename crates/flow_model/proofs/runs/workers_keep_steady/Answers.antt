use Rattle.flow_model.specs.Setup.{setup_view}
use Rattle.flow_model.proofs.PlannedLemmas.{has_covers}
use Rattle.flow_model.proofs.WorkerLawLemmas.{worker_agrees, worker_sends}
use Rattle.flow_model.proofs.runs.workers_keep_steady.Goals as goal

pub returns-clause-agreement : goal.returns-clause-agreement
returns-clause-agreement c graph begin who journal same works =
    let setup = setup_view c.args.setup.now in
    worker_agrees setup (has_covers setup c.args.setup.now.planned) graph same begin who journal works

pub returns-clause-steady : goal.returns-clause-steady
returns-clause-steady c graph begin who counts journal same works =
    let setup = setup_view c.args.setup.now in
    worker_sends setup (has_covers setup c.args.setup.now.planned) graph same begin who journal works counts
