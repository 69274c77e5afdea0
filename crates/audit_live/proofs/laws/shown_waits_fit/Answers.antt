use Rattle.std.proofs.Common.{arith}
use Rattle.audit_live.specs.Shown.{rows_shown}
use Rattle.audit_live.proofs.WaitLemmas.{waits_each, waits_in_order, waits_not_early, waits_within}
use Rattle.audit_live.proofs.laws.shown_waits_fit.Goals as goal

pub returns-clause-one_each : goal.returns-clause-one_each
returns-clause-one_each c rows accepted told = waits_each rows 0 accepted (rows_shown 0 told)

pub returns-clause-in_order : goal.returns-clause-in_order
returns-clause-in_order c rows accepted told = waits_in_order rows 0 accepted (rows_shown 0 told) (omega arith)

pub returns-clause-within : goal.returns-clause-within
returns-clause-within c rows accepted told k d lt = waits_within rows 0 accepted (rows_shown 0 told) k d lt

pub returns-clause-not_early : goal.returns-clause-not_early
returns-clause-not_early c rows accepted told = waits_not_early rows 0 accepted (rows_shown 0 told)
