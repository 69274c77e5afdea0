use Rattle.std.proofs.Common.{length, refl, subst, sym}
use Rattle.std.proofs.lemmas.Result.{IfOk-weaker}
use Rattle.jobs.specs.Job.{job_view}
use Rattle.jobs.specs.Nodes.{AreFromSources}
use Rattle.flow_model.specs.Run.{IsRun}
use Rattle.flow_model.specs.Setup.{setup_view}
use Rattle.flow_model.specs.declared.setup.Setup.{Setup}
use Rattle.flow_replay.specs.Order.{IsInOrder}
use Rattle.flow_replay.specs.declared.executor.Left.{Left}
use Rattle.flow_replay.specs.inner.Executor.{HasFed, HasLeft, left_view}
use Rattle.flow_replay.proofs.PlainLemmas.{is_in_order, is_new, is_run, opens}
use Rattle.flow_replay.proofs.plain.run_rows.Goals as goal

pub feed_all-requires-clause-new : goal.feed_all-requires-clause-new
feed_all-requires-clause-new c =
    is_new c.args.setup.now c.in_ok-executor.executor c.in_ok-executor.ensures

pub feed_all-requires-clause-sources : goal.feed_all-requires-clause-sources
feed_all-requires-clause-sources c =
    subst (λ (s : Setup). AreFromSources (job_view s.job) c.args.rows.now)
    (sym c.in_ok-executor.ensures.setup_is) c.requires

pub finish-requires : goal.finish-requires
finish-requires c =
    opens c.in_ok-executor.executor.setup.now c.args.rows.now (length c.args.rows.now)
    c.feed_all.new.executor c.in_ok-feed_all.ensures

pub returns-clause-run : goal.returns-clause-run
returns-clause-run c =
    let rows = c.args.rows.now in
    let executor = c.feed_all.new.executor in
    let setup = c.args.setup.now in
    let fed : HasFed setup rows (length rows) executor =
    subst (λ (s : Setup). HasFed s rows (length rows) executor) c.in_ok-executor.ensures.setup_is
    c.in_ok-feed_all.ensures in
    IfOk-weaker c.finish.result (HasLeft executor)
    (λ (left : Left). IsRun (setup_view setup) rows (left_view (setup_view setup) left))
    (λ (left : Left) has. is_run setup rows (length rows) executor left refl fed has)
    c.finish.ensures

pub returns-clause-order : goal.returns-clause-order
returns-clause-order c =
    let rows = c.args.rows.now in
    let executor = c.feed_all.new.executor in
    let setup = c.args.setup.now in
    let fed : HasFed setup rows (length rows) executor =
    subst (λ (s : Setup). HasFed s rows (length rows) executor) c.in_ok-executor.ensures.setup_is
    c.in_ok-feed_all.ensures in
    IfOk-weaker c.finish.result (HasLeft executor)
    (λ (left : Left). IsInOrder (length rows) (left_view (setup_view setup) left))
    (λ (left : Left) has. is_in_order setup rows (length rows) executor left refl fed has)
    c.finish.ensures
