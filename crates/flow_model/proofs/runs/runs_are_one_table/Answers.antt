use Rattle.std.proofs.Common.{subst, sym}
use Rattle.jobs.specs.Nodes.{AreFromSources}
use Rattle.flow_model.specs.OneTable.{HasNoCounts}
use Rattle.flow_model.specs.SetupView.{SetupView}
use Rattle.flow_model.proofs.OneTableLemmas.{one_table}
use Rattle.flow_model.proofs.SetupLemmas.{running}
use Rattle.flow_model.proofs.runs.runs_are_one_table.Goals as goal

pub returns : goal.returns
returns c rows ran are is none sources =
    one_table rows ran (running c.args.setup.now rows ran are is) (subst (λ (s : SetupView). HasNoCounts s.job) (sym is.setup_is) none)
    (subst (λ (s : SetupView). AreFromSources s.job rows) (sym is.setup_is) sources)
