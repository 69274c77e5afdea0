use Rattle.std.proofs.Common.{◌∙◌}
use Rattle.flow_model.specs.Setup.{setup_view}
use Rattle.flow_replay.proofs.WorkerRunLemmas.{cover_answer, uncovered_gain}
use Rattle.flow_replay.proofs.worker_run.WorkerRun.turn_if_covered.Goals as goal

pub returns-else-covers : goal.returns-else-covers
returns-else-covers c =
    uncovered_gain (setup_view c.args.who.setup.now) c.args.who.number c.args.request c.args.self.now
    (cover_answer (setup_view c.args.who.setup.now) c.args.who.number c.args.request c.covers.result c.args.who.there
    c.covers.ensures ∙ c.if-covers.false)
