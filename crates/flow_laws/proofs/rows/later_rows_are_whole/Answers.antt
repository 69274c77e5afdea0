use Rattle.std.proofs.Common.{subst}
use Rattle.tuple_trace.specs.Rows.{AreRows}
use Rattle.flow_laws.proofs.OnceLemmas.{met_once}
use Rattle.flow_laws.proofs.RunLemmas.{RunningFrom, all_agreements, running_from}
use Rattle.flow_laws.proofs.WholeLemmas.{one_sided, whole}
use Rattle.flow_laws.proofs.rows.later_rows_are_whole.Goals as goal

pub returns-clause-rows : goal.returns-clause-rows
returns-clause-rows c begin ran is =
    let rows = c.args.rows.now in
    let are : AreRows rows = subst AreRows c.as_slice-numbered.ensures.value c.as_slice-numbered.ensures.rows in
    let g : RunningFrom begin rows ran = running_from c.args.setup.now begin rows ran are is in
    record { whole = λ request row. whole begin rows ran g request row; once = λ node. met_once begin rows ran g node }

pub returns-clause-asked : goal.returns-clause-asked
returns-clause-asked c begin ran is request row =
    let rows = c.args.rows.now in
    let are : AreRows rows = subst AreRows c.as_slice-numbered.ensures.value c.as_slice-numbered.ensures.rows in
    one_sided begin rows ran (running_from c.args.setup.now begin rows ran are is) request row

pub returns-clause-agreement : goal.returns-clause-agreement
returns-clause-agreement c begin ran is =
    let rows = c.args.rows.now in
    let are : AreRows rows = subst AreRows c.as_slice-numbered.ensures.value c.as_slice-numbered.ensures.rows in
    all_agreements begin rows ran (running_from c.args.setup.now begin rows ran are is)
