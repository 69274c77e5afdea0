use Rattle.std.proofs.Common.{◌≡◌, ◌∙◌, Some, List, ap, arith, length, subst, sym}
use Rattle.std.proofs.lemmas.Option.{slice_get-get_or}
use Rattle.jobs.specs.Job.{job_view}
use Rattle.jobs.specs.Nodes.{AreFromSources, IsSourceOf}
use Rattle.tuple_trace.specs.declared.row.Row.{Row}
use Rattle.flow_model.specs.declared.setup.Setup.{Setup}
use Rattle.flow_replay.specs.inner.Executor.{HasFed}
use Rattle.flow_replay.proofs.PlainLemmas.{begins, goes_on, may_begin, may_issue}
use Rattle.flow_replay.proofs.plain.feed_all.Goals as goal

pub issue_up_to-requires : goal.issue_up_to-requires
issue_up_to-requires c =
    may_begin c.args.executor.now.setup.now (length c.as_slice-list.result.now) c.args.executor.now
    c.requires.new

pub loop-place-init : goal.loop-place-init
loop-place-init c =
    begins c.args.executor.now.setup.now c.as_slice-list.result.now c.args.executor.now
    c.issue_up_to.new.self c.requires.new c.in_ok-issue_up_to.ensures.issued
    c.in_ok-issue_up_to.ensures.same

pub feed-requires : goal.feed-requires
feed-requires c =
    let rows = c.as_slice-list.result.now in
    let i = c.loop-place.place in
    let row = c.index-list-place.result in
    let sources =
    subst (λ (rs : List Row). AreFromSources (job_view c.args.executor.now.setup.now.job) rs)
    (sym c.as_slice-list.ensures.value) c.requires.sources in
    subst (λ (s : Setup). IsSourceOf (job_view s.job) row.source)
    (sym c.loop-place.invariant.same)
    (subst (λ (r : Row). IsSourceOf (job_view c.args.executor.now.setup.now.job) r.source)
    (sym c.index-list-place.is) (sources i row c.loop-place-test.true))

pub issue_up_to-requires-in-loop-place : goal.issue_up_to-requires-in-loop-place
issue_up_to-requires-in-loop-place c =
    may_issue c.args.executor.now.setup.now c.as_slice-list.result.now c.loop-place.place c.loop-place.executor
    c.feed.new.self c.loop-place.invariant c.in_ok-feed.ensures.same
    c.in_ok-feed.ensures.issued

pub loop-place-preserved : goal.loop-place-preserved
loop-place-preserved c =
    let rows = c.as_slice-list.result.now in
    let place = c.loop-place.place in
    let row = c.index-list-place.result in
    let there =
    slice_get-get_or rows place row c.loop-place-test.true
    ∙ ap Some (sym c.index-list-place.is) in
    let number = (c.as_slice-list.ensures.rows place row there).numbered in
    goes_on c.args.executor.now.setup.now rows place row c.loop-place.executor c.feed.new.self
    c.issue_up_to-in-loop-place.new.self there c.loop-place-test.true number
    c.in_ok-feed.ensures.fed c.in_ok-feed.ensures.feeds c.in_ok-feed.ensures.issued
    c.in_ok-feed.ensures.same c.in_ok-issue_up_to-2.ensures.issued
    c.in_ok-issue_up_to-2.ensures.same c.loop-place.invariant

pub returns : goal.returns
returns c =
    let kept = c.args.executor.now.setup.now in
    let list = c.as_slice-list.result.now in
    let end : c.loop-place.place ≡ length list =
    omega (arith, c.loop-place-test.false, c.loop-place.auto.place-end) in
    subst (λ (rs : List Row). HasFed kept rs (length rs) c.loop-place.executor)
    c.as_slice-list.ensures.value
    (subst (λ n. HasFed kept list n c.loop-place.executor) end c.loop-place.invariant)
