use Rattle.std.proofs.Common.{ℕ, List, length}
use Rattle.flow_model.specs.Requests.{afters}
use Rattle.flow_model.specs.Setup.{setup_view}
use Rattle.audit_laws.specs.Delivered.{feed_of}
use Rattle.audit_check.proofs.IssueLemmas.{feed_next, issued_on}
use Rattle.audit_check.proofs.steps.feed_of_rows.Goals as goal

pub loop-row-preserved : goal.loop-row-preserved
loop-row-preserved c =
    let setup = setup_view c.args.setup.now in
    let waits : List ℕ = afters setup.requests in
    let start = c.args.start.now in
    let rows : ℕ = length c.as_slice.result.now in
    record {
      waits =
          issued_on waits rows c.loop-row.row start.turned c.loop-row.issued c.in_ok-issued-2.issued
          c.loop-row.invariant.waits c.in_ok-issued-2.ensures.waits;
      feeds =
          feed_next waits rows c.loop-row.row start.turned c.loop-row.issued c.loop-row.feeds
          c.push.new.self c.push_due-in-loop-row.new.feeds (feed_of start setup c.args.rows.now)
          c.loop-row-test.true c.loop-row.invariant.waits c.in_ok-push.ensures.ok
          c.in_ok-issued-2.ensures.feeds c.loop-row.invariant.feeds;
    }
