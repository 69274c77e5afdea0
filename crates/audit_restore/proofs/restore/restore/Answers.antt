use Rattle.std.proofs.Common.{rules, ◌∙◌, List, Some, ap, arith, get_or, refl, subst, sym}
use Rattle.std.proofs.lemmas.Option.{slice_get-get_or}
use Rattle.sink_journal.specs.declared.journal.Feed.{Feed}
use Rattle.flow_model.specs.Setup.{setup_view}
use Rattle.flow_model.proofs.JobLemmas.{connected}
use Rattle.audit_restore.specs.Restored.{IsOrder}
use Rattle.audit_restore.specs.Standing.{HoldsFeed}
use Rattle.audit_restore.proofs.RestoredLemmas.{all_done, lane_fault, nothing_done, one_more}
use Rattle.audit_restore.proofs.restore.restore.Goals as goal

pub loop-worker-init : goal.loop-worker-init
loop-worker-init c =
    let setup = setup_view c.args.setup.now in
    let dag = c.args.setup.now.job.dag in
    let is = subst (IsOrder setup.job dag.order) (sym c.as_slice-worker-items.ensures) c.in_ok-order.ensures in
    nothing_done setup dag (connected setup.job dag c.args.setup.now.job.lawful refl c.args.setup.now.job.drawn) refl c.args.setup.now.job.drawn c.as_slice-worker-items.result.now is c.args.start.now c.args.rows.now c.args.audit.now
    c.in_ok-restored.restored.journals c.in_ok-restored.restored.states c.in_ok-standing.standing c.in_ok-restored.ensures.journals c.in_ok-restored.ensures.states
    (subst (λ (f : List Feed). HoldsFeed setup.job c.args.rows.now c.args.start.now.turned f c.in_ok-standing.standing) c.requires.feeds c.in_ok-standing.ensures)

pub returns-in_err-check_lanes-clause-fault : goal.returns-in_err-check_lanes-clause-fault
returns-in_err-check_lanes-clause-fault c =
    let setup = setup_view c.args.setup.now in
    let dag = c.args.setup.now.job.dag in
    let workers = c.as_slice-worker-items.result.now in
    let is = subst (IsOrder setup.job dag.order) (sym c.as_slice-worker-items.ensures) c.in_ok-order.ensures in
    let i = c.loop-worker.worker-index in
    let w = get_or workers i 0 in
    let at = slice_get-get_or workers i 0 c.loop-worker-test.true in
    let lt = is.within i w at in
    let there = slice_get-get_or c.args.audit.now w c.index-audit-worker.result (omega (arith, lt, c.requires.long)) ∙ ap Some (sym (c.as_slice-journal.ensures ∙ c.index-audit-worker.is)) in
    let fault = lane_fault setup dag (connected setup.job dag c.args.setup.now.job.lawful refl c.args.setup.now.job.drawn) refl c.args.setup.now.job.drawn workers is c.args.start.now c.args.rows.now c.args.audit.now i w at c.as_slice-journal.result.now there
    c.loop-worker.restored.journals c.loop-worker.restored.states c.loop-worker.standing c.loop-worker.invariant _ c.in_err-check_lanes.ensures.fault in
    search (rules, fault)

pub loop-worker-preserved : goal.loop-worker-preserved
loop-worker-preserved c =
    let setup = setup_view c.args.setup.now in
    let dag = c.args.setup.now.job.dag in
    let workers = c.as_slice-worker-items.result.now in
    let is = subst (IsOrder setup.job dag.order) (sym c.as_slice-worker-items.ensures) c.in_ok-order.ensures in
    let i = c.loop-worker.worker-index in
    let w = get_or workers i 0 in
    let at = slice_get-get_or workers i 0 c.loop-worker-test.true in
    let lt = is.within i w at in
    let there = slice_get-get_or c.args.audit.now w c.index-audit-worker.result (omega (arith, lt, c.requires.long)) ∙ ap Some (sym (c.as_slice-journal.ensures ∙ c.index-audit-worker.is)) in
    one_more setup dag (connected setup.job dag c.args.setup.now.job.lawful refl c.args.setup.now.job.drawn) refl c.args.setup.now.job.drawn workers is c.args.start.now c.requires.starts c.args.rows.now c.args.audit.now c.requires.finished i w at c.as_slice-journal.result.now there
    c.loop-worker.restored c.add.new.self c.loop-worker.standing c.add.new.standing c.loop-worker.invariant c.in_ok-check_lanes.ensures.ok c.in_ok-add.ensures

pub returns-clause-ok : goal.returns-clause-ok
returns-clause-ok c =
    let setup = setup_view c.args.setup.now in
    let dag = c.args.setup.now.job.dag in
    let is = subst (IsOrder setup.job dag.order) (sym c.as_slice-worker-items.ensures) c.in_ok-order.ensures in
    all_done setup dag (connected setup.job dag c.args.setup.now.job.lawful refl c.args.setup.now.job.drawn) refl c.args.setup.now.job.drawn c.as_slice-worker-items.result.now is c.args.start.now c.args.rows.now c.args.audit.now c.loop-worker.worker-index
    c.loop-worker.restored.journals c.loop-worker.restored.states c.loop-worker.standing c.loop-worker-test.false c.loop-worker.invariant
