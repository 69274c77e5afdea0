use Rattle.std.proofs.Common.{subst}
use Rattle.flow_model.specs.OneTable.{HasNoCounts}
use Rattle.flow_model.specs.SetupView.{SetupView}
use Rattle.flow_model.proofs.consistent.runs_are_consistent.Goals as goal

pub returns : goal.returns
returns c rows ran are run sources = record {
  whole = c.runs_are_whole.ensures.whole rows ran are run;
  once = c.runs_are_whole.ensures.once rows ran are run;
  fresh = c.runs_are_fresh.ensures.due rows ran are run;
  fresh_before = c.runs_are_fresh.ensures.before rows ran are run;
  one_table = λ none. c.runs_are_one_table.ensures rows ran are run (subst (λ (s : SetupView). HasNoCounts s.job) run.setup_is none) sources;
}
