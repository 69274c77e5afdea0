use Rattle.std.proofs.lemmas.Result.{on_ok_weaker}
use Rattle.flow_model.specs.Setup.{setup_view}
use Rattle.flow_model.proofs.StateLemmas.{came_out, processed}
use Rattle.flow_model.proofs.worker_state.WorkerState.process_by.Goals as goal

pub returns-clause-state : goal.returns-clause-state
returns-clause-state c =
    on_ok_weaker c.apply.result
    (processed (setup_view c.args.setup.now) c.args.by.at c.args.self.now c.args.by.func.now
    c.args.tuple.now c.apply.new.state c.requires.func) c.apply.ensures.counts

pub returns-clause-outs : goal.returns-clause-outs
returns-clause-outs c =
    on_ok_weaker c.apply.result
    (came_out (setup_view c.args.setup.now) c.args.by.at c.args.self.now c.args.by.func.now
    c.args.tuple.now c.args.outs.now c.apply.new.out c.requires.func) c.apply.ensures.outputs
