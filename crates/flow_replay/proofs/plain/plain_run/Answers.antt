use Rattle.flow_model.specs.Setup.{setup_view}
use Rattle.flow_replay.specs.inner.Executor.{left_view}
use Rattle.flow_replay.proofs.plain.plain_run.Goals as goal

pub returns-clause-consistent : goal.returns-clause-consistent
returns-clause-consistent c =
    c.runs_are_consistent.ensures c.args.rows.now
    (left_view (setup_view c.args.setup) c.in_ok-feeds.field-0) c.are_numbered.ensures c.in_ok-feeds.ensures.run c.requires
