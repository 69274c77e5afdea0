use Rattle.std.proofs.Common.{subst, sym}
use Rattle.std.specs.Prelude.{IsTrue}
use Rattle.jobs.specs.Nodes.{AreFromSources}
use Rattle.tuple_trace.specs.Rows.{AreRows}
use Rattle.flow_model.specs.OneTable.{HasNoCounts}
use Rattle.flow_model.specs.SetupView.{SetupView}
use Rattle.flow_model.proofs.SerialLemmas.{is_serial, sees_prefix}
use Rattle.flow_model.proofs.SetupLemmas.{running}
use Rattle.flow_model.proofs.ordered.ordered_runs_are_serial.Goals as goal

pub returns-clause-prefix : goal.returns-clause-prefix
returns-clause-prefix c ran is ordered row =
    let rows = c.args.rows.now in
    let are : AreRows rows = subst AreRows c.as_slice-numbered.ensures.value c.as_slice-numbered.ensures.rows in
    sees_prefix rows ran (running c.args.setup.now rows ran are is) (subst (λ (s : SetupView). IsTrue s.ordered) (sym is.setup_is) ordered) row

pub returns-clause-landings : goal.returns-clause-landings
returns-clause-landings c ran is ordered none sources =
    let rows = c.args.rows.now in
    let are : AreRows rows = subst AreRows c.as_slice-numbered.ensures.value c.as_slice-numbered.ensures.rows in
    is_serial rows ran (running c.args.setup.now rows ran are is) (subst (λ (s : SetupView). IsTrue s.ordered) (sym is.setup_is) ordered)
    (subst (λ (s : SetupView). HasNoCounts s.job) (sym is.setup_is) none) (subst (λ (s : SetupView). AreFromSources s.job rows) (sym is.setup_is) sources)
