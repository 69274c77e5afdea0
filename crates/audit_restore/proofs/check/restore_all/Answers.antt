use Rattle.std.proofs.Common.{rules, List, subst}
use Rattle.keyed_state.specs.Counts.{Counts}
use Rattle.flow_model.specs.Setup.{setup_view}
use Rattle.audit_laws.specs.declared.audit.AuditEntry.{AuditEntry}
use Rattle.audit_laws.specs.Faults.{AreTrimmedFinished, Listed}
use Rattle.audit_restore.specs.Restored.{AllRestored, IsFaultOfLanes, IsFirstOther}
use Rattle.audit_restore.proofs.CheckLemmas.{lanes_fault, states_fault}
use Rattle.audit_restore.proofs.check.restore_all.Goals as goal

pub returns-in_err-restored-clause-fault : goal.returns-in_err-restored-clause-fault
returns-in_err-restored-clause-fault c =
    let setup = setup_view c.args.setup.now in
    let begin = c.args.start.now in
    let rows = c.args.rows.now in
    let f = c.in_err-restored.field-0.0 in
    let law = subst (AreTrimmedFinished begin setup rows) c.as_slice-audit.ensures.value c.in_ok-check_law.ensures.ok in
    let found = subst (λ (a : List (List AuditEntry)). IsFaultOfLanes begin setup c.args.setup.now.job.dag.order rows a f) c.as_slice-audit.ensures.value c.in_err-restored.ensures.fault in
    let fault = lanes_fault begin setup c.args.setup.now.job.dag.order rows c.args.told.now.journals.items c.args.told.now.states.items law f found in
    search (rules, fault)

pub returns-in_err-check_counts-clause-fault : goal.returns-in_err-check_counts-clause-fault
returns-in_err-check_counts-clause-fault c =
    let setup = setup_view c.args.setup.now in
    let begin = c.args.start.now in
    let rows = c.args.rows.now in
    let f = c.in_err-check_counts.field-0.0 in
    let states = c.in_ok-restored.restored.states in
    let law = subst (AreTrimmedFinished begin setup rows) c.as_slice-audit.ensures.value c.in_ok-check_law.ensures.ok in
    let all = subst (λ (a : List (List AuditEntry)). AllRestored begin setup rows a c.in_ok-restored.restored.journals states) c.as_slice-audit.ensures.value c.in_ok-restored.ensures.ok in
    let found = subst (λ (s : List Counts). IsFirstOther c.args.told.now.states.items s f) c.as_slice-2.ensures
    (subst (λ (t : List Listed). IsFirstOther t c.as_slice-2.result.now f) c.as_slice.ensures.value c.in_err-check_counts.ensures.fault) in
    let fault = states_fault begin setup c.requires.starts c.args.setup.now.job.dag.order rows c.args.told.now.journals.items c.args.told.now.states.items c.in_ok-restored.restored.journals states law all f found in
    search (rules, fault)

pub returns-clause-finished : goal.returns-clause-finished
returns-clause-finished c =
    subst (AreTrimmedFinished c.args.start.now (setup_view c.args.setup.now) c.args.rows.now) c.as_slice-audit.ensures.value c.in_ok-check_law.ensures.ok
