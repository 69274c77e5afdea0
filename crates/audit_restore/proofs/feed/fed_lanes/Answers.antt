use Rattle.std.proofs.Common.{rules, arith, ◌∙◌, ◌<◌, ◌+◌, ◌^◌, ◌++◌, List, ap, length, subst, sym}
use Rattle.jobs.specs.Job.{job_view}
use Rattle.sink_journal.specs.declared.journal.Feed.{Feed}
use Rattle.tuple_trace.specs.declared.row.Row.{Row}
use Rattle.tuple_trace.specs.declared.tuple.Item.{Item}
use Rattle.flow_model.specs.declared.topology.Topology.{Topology}
use Rattle.flow_model.specs.Begin.{Begin}
use Rattle.flow_model.specs.Feeding.{fed_put, row_numbered}
use Rattle.flow_model.specs.Setup.{setup_view}
use Rattle.audit_restore.specs.Standing.{HoldsLanes}
use Rattle.audit_restore.proofs.FeedLemmas.{AreFed, fed_first, fed_last, fed_request, fed_row, fed_stopped, holds_nothing}
use Rattle.audit_restore.proofs.IssueLemmas.{few_issues, issues_in}
use Rattle.audit_restore.proofs.feed.fed_lanes.Goals.{in-Fed+in_ok-feed-in-Fed, in-Issued, in-Stopped}
use Rattle.audit_restore.proofs.feed.fed_lanes.Goals as goal

pub loop-step-init : goal.loop-step-init
loop-step-init c =
    let job = job_view c.args.setup.now.job in
    let begin : Begin = c.args.start.now in
    let turned = ap (λ (b : Begin). b.turned) c.start.view_is in
    let narrow : c.start.inside.turned < 2 ^ 64 = search rules in
    let issues =
    few_issues begin (setup_view c.args.setup.now) c.args.rows.now (omega (arith, narrow, turned))
    (omega (arith, c.request_count-request_count.type_inv, c.request_count-request_count.ensures)) in
    let few : begin.turned + issues_in c.args.feeds.now < 2 ^ 64 =
    subst (λ (f : List Feed). begin.turned + issues_in f < 2 ^ 64) (sym c.requires.feeds) issues in
    fed_first job c.args.rows.now begin.turned c.start.inside.turned c.args.feeds.now
    c.in_ok-standing.standing
    (holds_nothing job c.in_ok-standing.standing c.len.result c.in_ok-standing.ensures
    (c.len.ensures ∙ ap (λ (t : Topology). length t.lanes) c.args.setup.now.topology_is)) turned few

pub loop-step-preserved : goal.loop-step-preserved
loop-step-preserved c =
    let job = job_view c.args.setup.now.job in
    let rows = c.args.rows.now in
    let feeds = c.args.feeds.now in
    let turned = c.args.start.now.turned in
    let i = c.loop-step.step-index in
    let issued = c.loop-step.issued in
    let old = c.loop-step.standing in
    let inv = c.loop-step.invariant in
    elim c.match-step.branch [
      | in-Fed+in_ok-feed-in-Fed w ↦
          subst (λ n. AreFed job rows turned feeds (i + 1) n c.match-step.standing) (sym w.issued-is)
          (subst (λ (s : List (List Item)). AreFed job rows turned feeds (i + 1) issued s) (sym w.standing-is)
          (fed_row job rows turned feeds i issued _ old inv c.loop-step-test.true w.in-Fed.row w.feed.new.standing w.in-Fed.is
          (subst (λ (r : List Row). HoldsLanes job w.feed.new.standing (inv.puts ++ fed_put job issued (row_numbered r w.in-Fed.row))) c.as_slice-list.ensures.value
          (w.in_ok-feed-in-Fed.ensures inv.puts inv.holds))))
      | in-Issued w ↦
          subst (λ n. AreFed job rows turned feeds (i + 1) n c.match-step.standing) (sym w.issued-is)
          (subst (λ (s : List (List Item)). AreFed job rows turned feeds (i + 1) (issued + 1) s) (sym w.standing-is)
          (fed_request job rows turned feeds i issued _ old inv c.loop-step-test.true w.in-Issued.field-0 w.in-Issued.is))
      | in-Stopped w ↦
          subst (λ n. AreFed job rows turned feeds (i + 1) n c.match-step.standing) (sym w.issued-is)
          (subst (λ (s : List (List Item)). AreFed job rows turned feeds (i + 1) issued s) (sym w.standing-is)
          (fed_stopped job rows turned feeds i issued _ old inv c.loop-step-test.true w.in-Stopped.is))
    ]

pub returns : goal.returns
returns c =
    fed_last (job_view c.args.setup.now.job) c.args.rows.now c.args.start.now.turned c.args.feeds.now c.loop-step.step-index c.loop-step.issued c.loop-step.standing c.end.new.standing c.loop-step.invariant
    c.loop-step-test.false c.in_ok-end.ensures
