use Rattle.std.proofs.Common.{◌≡◌, ◌<◌, ◌≤◌, ◌+◌, ◌-◌, ◌++◌, Some, arith, min, subst}
use Rattle.std.specs.Prelude.{slice_get}
use Rattle.flow_model.specs.Requests.{afters}
use Rattle.flow_model.specs.Setup.{setup_view}
use Rattle.flow_model.proofs.SetupLemmas.{in_order}
use Rattle.audit_check.specs.Issuing.{issues}
use Rattle.audit_check.proofs.IssueLemmas.{due_next, due_stops, issues-next, issues-stop}
use Rattle.audit_check.proofs.steps.push_due.Goals as goal

pub returns-then-min-row-clause-waits : goal.returns-then-min-row-clause-waits
returns-then-min-row-clause-waits c =
    let setup = setup_view c.args.setup.now in
    let here : c.loop-place.place + 1 - 1 ≡ c.loop-place.place = omega arith in
    let after = subst (λ k. slice_get (afters setup.requests) k ≡ Some c.after.result) here
    c.after.ensures in
    let later : c.args.row < min c.after.result c.args.rows =
    omega (arith, c.if-min-row.true, c.min.ensures) in
    due_stops setup.requests c.args.rows c.args.row c.args.issued c.loop-place.place c.after.result
    (in_order c.args.setup.now) after later c.loop-place.invariant.more c.loop-place.invariant.past

pub returns-then-min-row-clause-feeds : goal.returns-then-min-row-clause-feeds
returns-then-min-row-clause-feeds c =
    let setup = setup_view c.args.setup.now in
    let here : c.loop-place.place + 1 - 1 ≡ c.loop-place.place = omega arith in
    let after = subst (λ k. slice_get (afters setup.requests) k ≡ Some c.after.result) here
    c.after.ensures in
    let later : c.args.row < min c.after.result c.args.rows =
    omega (arith, c.if-min-row.true, c.min.ensures) in
    let stops = due_stops setup.requests c.args.rows c.args.row c.args.issued c.loop-place.place
    c.after.result (in_order c.args.setup.now) after later c.loop-place.invariant.more
    c.loop-place.invariant.past in
    issues-stop (afters setup.requests) c.args.rows c.args.row c.args.issued c.loop-place.place
    c.loop-place.feeds (c.args.feeds.now ++ issues (afters setup.requests) c.args.rows c.args.row
    c.args.issued) stops c.loop-place.invariant.feeds

pub loop-place-preserved : goal.loop-place-preserved
loop-place-preserved c =
    let setup = setup_view c.args.setup.now in
    let here : c.loop-place.place + 1 - 1 ≡ c.loop-place.place = omega arith in
    let after = subst (λ k. slice_get (afters setup.requests) k ≡ Some c.after.result) here
    c.after.ensures in
    let due : min c.after.result c.args.rows ≤ c.args.row =
    omega (arith, c.if-min-row.false, c.min.ensures) in
    let more = c.loop-place.invariant.more in
    record {
      more = omega (arith, more);
      past =
          due_next (afters setup.requests) c.args.rows c.args.row c.args.issued c.loop-place.place
          c.after.result after due c.loop-place.invariant.past;
      feeds =
          issues-next (afters setup.requests) c.args.rows c.args.row c.loop-place.place
          c.after.result c.loop-place.feeds c.push.new.self (c.args.feeds.now
          ++ issues (afters setup.requests) c.args.rows c.args.row c.args.issued) after due
          c.in_ok-push.ensures.ok c.loop-place.invariant.feeds;
    }
