use Rattle.flow_model.proofs.FreshLemmas.{is_fresh, is_fresh_before}
use Rattle.flow_model.proofs.SetupLemmas.{running}
use Rattle.flow_model.proofs.runs.runs_are_fresh.Goals as goal

pub returns-clause-due : goal.returns-clause-due
returns-clause-due c rows ran are is = is_fresh rows ran (running c.args.setup.now rows ran are is)

pub returns-clause-before : goal.returns-clause-before
returns-clause-before c rows ran are is = is_fresh_before rows ran (running c.args.setup.now rows ran are is)
