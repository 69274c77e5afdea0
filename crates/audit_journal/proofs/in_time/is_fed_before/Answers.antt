use Rattle.std.proofs.Common.{◌<◌, ◌≤◌, inl, inr, refl, ap, arith}
use Rattle.std.proofs.lemmas.Bool.{le-leb, leb-true}
use Rattle.flow_model.specs.Begin.{Begin}
use Rattle.flow_model.specs.Requests.{afters}
use Rattle.flow_model.specs.Setup.{setup_view}
use Rattle.audit_journal.proofs.FedLemmas.{by_row, early, issued_outside, too_many}
use Rattle.audit_journal.proofs.in_time.is_fed_before.Goals.{then-row-start-via-then-row-start, then-row-start-via-else-row-start+then-row-rows}
use Rattle.audit_journal.proofs.in_time.is_fed_before.Goals as goal

pub returns-then-row-start : goal.returns-then-row-start
returns-then-row-start c =
    let begin : Begin = c.args.start.now in
    let above = c.if-request-eq0.false in
    let row_is = ap (λ (b : Begin). b.row) c.start.view_is in
    let unfed =
    issued_outside begin.row begin.turned c.args.rows c.args.row
    (afters (setup_view c.args.setup.now).requests)
    (elim c.then-row-start.branch [
      | then-row-start-via-then-row-start w ↦
          inl (let le = w.if-row-start.true in omega (arith, le, row_is))
      | then-row-start-via-else-row-start+then-row-rows w ↦ inr w.if-row-rows.true
    ]) in
    (λ t. omega (arith, unfed, above), λ l. refl)

pub returns-then-request-start : goal.returns-then-request-start
returns-then-request-start c =
    let begin : Begin = c.args.start.now in
    let row_is = ap (λ (b : Begin). b.row) c.start.view_is in
    let turned_is = ap (λ (b : Begin). b.turned) c.start.view_is in
    let past = c.if-row-start.false in
    let above : begin.row < c.args.row = omega (arith, past, row_is) in
    let turned = c.if-request-start.true in
    let before : c.args.request ≤ begin.turned = omega (arith, turned, turned_is) in (
      λ f. absurd (cc),
      λ l. absurd (early c.args.setup.now begin.row begin.turned c.args.rows c.args.row above
          c.if-row-rows.false c.args.request before l),
    )

pub returns-then-request-request_count : goal.returns-then-request-request_count
returns-then-request-request_count c =
    let begin : Begin = c.args.start.now in
    let row_is = ap (λ (b : Begin). b.row) c.start.view_is in
    let turned_is = ap (λ (b : Begin). b.turned) c.start.view_is in
    let past = c.if-row-start.false in
    let above : begin.row < c.args.row = omega (arith, past, row_is) in
    let turned = c.if-request-start.false in
    let later : begin.turned < c.args.request = omega (arith, turned, turned_is) in
    let many = c.if-request-request_count.true in
    let less =
    too_many c.args.setup.now begin.row begin.turned c.args.rows c.args.row above
    c.if-row-rows.false c.args.request later (omega (arith, many, c.request_count.ensures)) in
    (λ t. less, λ l. refl)

pub returns : goal.returns
returns c =
    let begin : Begin = c.args.start.now in
    let row_is = ap (λ (b : Begin). b.row) c.start.view_is in
    let turned_is = ap (λ (b : Begin). b.turned) c.start.view_is in
    let past = c.if-row-start.false in
    let above : begin.row < c.args.row = omega (arith, past, row_is) in
    let turned = c.if-request-start.false in
    let later : begin.turned < c.args.request = omega (arith, turned, turned_is) in
    let both =
    by_row c.args.setup.now begin.row begin.turned c.args.rows c.args.row above
    c.if-row-rows.false c.args.request c.after.result later c.after.ensures in (
      λ t. both.1 (leb-true c.args.row c.after.result t),
      λ l. le-leb c.args.row c.after.result (both.0 l),
    )
