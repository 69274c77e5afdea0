use Rattle.flow_model.specs.Setup.{setup_view}
use Rattle.flow_replay.specs.declared.worker_run.WorkerRun.{WorkerRun}
use Rattle.flow_replay.proofs.WorkerRunLemmas.{turned}
use Rattle.flow_replay.proofs.worker_run.WorkerRun.turn.Goals as goal

pub returns : goal.returns
returns c =
    let new : WorkerRun = record { journal = c.push.new.self; state = c.turn.new.self } in
    turned (setup_view c.args.who.setup.now) c.args.who.number c.args.request c.node.result
    c.args.self.now new c.mark.new.journal
    c.node.ensures.at c.in_ok-mark.ensures
    c.in_ok-push.ensures.ok c.turn.ensures.view
