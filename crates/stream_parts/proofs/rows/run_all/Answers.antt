use Rattle.std.proofs.Common.{◌≡◌, ◌∙◌, ◌+◌, ◌-◌, ◌≤◌, ◌++◌, [], List, append-nil, arith, drop}
use Rattle.std.proofs.Common.{ap, inl, inr, length, refl, subst, sym, take}
use Rattle.std.proofs.lemmas.List.{length-append}
use Rattle.std.proofs.lemmas.List.Elements.{All-drop, All-take}
use Rattle.std.proofs.lemmas.Result.{err_from_is_err_and}
use Rattle.jobs.specs.Job.{job_view}
use Rattle.jobs.specs.JobView.{JobView}
use Rattle.jobs.specs.Nodes.{AreFromSources, IsSourceOf}
use Rattle.tuple_trace.specs.FeedRows.{AreRowsAfter}
use Rattle.tuple_trace.specs.declared.row.Row.{Row}
use Rattle.stream_run.specs.Growing.{Goes, IsBooked}
use Rattle.stream_run.proofs.GoesLemmas.{goes_booked-same, goes_booked-then, stands-then}
use Rattle.stream_run.proofs.GoesLemmas.{stops-then}
use Rattle.stream_parts.specs.InTime.{IssuesFirst, NoneAsksBefore}
use Rattle.stream_parts.proofs.RowLemmas.{after-done, after-take, done-more, emptied, kept-none}
use Rattle.stream_parts.proofs.RowLemmas.{kept-then, length-take}
use Rattle.stream_parts.proofs.TimeLemmas.{issues-none, issues-one, issues-then, left-one}
use Rattle.stream_parts.proofs.TimeLemmas.{still-in-step, undue-kept}
use Rattle.stream_parts.proofs.rows.run_all.Goals as goal

pub loop-left-init : goal.loop-left-init
loop-left-init g c = record {
  done = [];
  rows = refl;
  goes = goes_booked-same c.args.call.now.names c.args.stream _ c.args.books.now;
  row = omega arith;
  kept = kept-none c.args.stream;
  issued = issues-none c.args.stream c.args.stream.start.row;
  step = inl refl;
  numbered = c.requires.numbered;
  sources = c.requires.sources;
  source = c.requires.source;
  closed = c.requires.closed;
  read = refl;
  faults = refl;
}

pub issue_due-requires-clause-stands : goal.issue_due-requires-clause-stands
issue_due-requires-clause-stands g c κs within =
    stands-then c.args.call.now.behind c.args.call.now.names c.loop-left.invariant.done
    c.args.stream c.loop-left.stream _ _ c.requires.stands c.loop-left.invariant.goes.0

pub returns-in_err-stream-clause-stopped : goal.returns-in_err-stream-clause-stopped
returns-in_err-stream-clause-stopped g c =
    let fault = err_from_is_err_and c.from_residual.result c.from_residual.ensures.1 in
    rw fault.1
    (stops-then c.args.call.now.names c.loop-left.invariant.done c.args.stream c.loop-left.stream _
    _ _ c.loop-left.invariant.goes.0 c.in_err-stream.ensures.stopped)

pub run_rows-requires-clause-numbered : goal.run_rows-requires-clause-numbered
run_rows-requires-clause-numbered g c κs within =
    after-take c.in_ok-stream.stream.start.row c.rows_of_part-count.result c.loop-left.left.now
    (subst (λ k. AreRowsAfter k c.loop-left.left.now) (sym c.in_ok-stream.ensures.row)
    c.loop-left.invariant.numbered)

pub run_rows-requires-clause-sources : goal.run_rows-requires-clause-sources
run_rows-requires-clause-sources g c κs within =
    subst (λ (j : JobView). AreFromSources j
    (take c.rows_of_part-count.result c.loop-left.left.now))
    (sym c.in_ok-stream.ensures.kept.job_is)
    (All-take (λ (row : Row). IsSourceOf (job_view c.loop-left.stream.setup.job) row.source)
    c.rows_of_part-count.result c.loop-left.left.now c.loop-left.invariant.sources)

pub run_rows-requires-clause-stands : goal.run_rows-requires-clause-stands
run_rows-requires-clause-stands g c κs within =
    stands-then c.args.call.now.behind c.args.call.now.names [] c.loop-left.stream
    c.in_ok-stream.stream _ _
    (stands-then c.args.call.now.behind c.args.call.now.names c.loop-left.invariant.done
    c.args.stream c.loop-left.stream _ _ c.requires.stands c.loop-left.invariant.goes.0)
    c.in_ok-stream.ensures.goes.0

pub returns-in_err-stream-2-clause-stopped : goal.returns-in_err-stream-2-clause-stopped
returns-in_err-stream-2-clause-stopped g c =
    let fault =
    err_from_is_err_and c.from_residual-in_err-stream-2.result
    c.from_residual-in_err-stream-2.ensures.1 in
    rw fault.1
    (stops-then c.args.call.now.names c.loop-left.invariant.done c.args.stream c.loop-left.stream _
    _ _ c.loop-left.invariant.goes.0
    (stops-then c.args.call.now.names [] c.loop-left.stream c.in_ok-stream.stream _ _ _
    c.in_ok-stream.ensures.goes.0 c.in_err-stream-2.ensures.stopped))

pub loop-left-preserved : goal.loop-left-preserved
loop-left-preserved g c =
    let inv = c.loop-left.invariant in
    let due = c.in_ok-stream in
    let next = c.in_ok-stream-2 in
    let n = c.rows_of_part-count.result in
    let rest = c.loop-left.left.now in
    let within : n ≤ length rest =
    omega (arith, c.min.ensures, c.rows_of_part-count.ensures.within) in
    let kept = kept-then c.loop-left.stream due.stream next.stream due.ensures.kept
    next.ensures.kept in
    let job_is : job_view next.stream.setup.job ≡ job_view c.loop-left.stream.setup.job =
    kept.job_is in
    let row : next.stream.start.row ≡ c.loop-left.stream.start.row + length (take n rest) =
    omega (arith, next.ensures.row, due.ensures.row) in
    let law = c.accepted_requests_are_in_order.ensures in
    let begin = c.args.stream in
    let last = due.stream.start.row + length (take n rest) in
    let begun : begin.start.row ≤ due.stream.start.row = omega (arith, inv.row, due.ensures.row) in
    let is_due : IssuesFirst begin due.stream.start.row due.stream =
    subst (λ k. IssuesFirst begin k due.stream) (sym due.ensures.row)
    (issues-then begin c.loop-left.stream due.stream c.loop-left.stream.start.row
    c.loop-left.stream.start.row (omega (arith, inv.row)) (omega arith) inv.step inv.issued
    due.ensures.issued) in
    let step = still-in-step begin c.loop-left.stream due.stream c.loop-left.stream.start.row
    inv.step due.ensures.issued due.ensures.row in
    let is_next = issues-one law due.stream next.stream last (omega arith) next.ensures.issued in
    let count : due.stream.start.row + n ≡ last = ap (λ k. due.stream.start.row + k)
    (sym (length-take n rest within)) in
    let undue = undue-kept c.loop-left.stream due.stream due.ensures.kept due.ensures.row
    due.ensures.none_due in
    record {
      done = inv.done ++ take n rest;
      rows = done-more _ _ _ n inv.rows;
      goes = goes_booked-then c.args.call.now.names inv.done
          (take n rest) c.args.stream c.loop-left.stream next.stream _ _ _ _ _ _ inv.goes
          (goes_booked-then c.args.call.now.names [] (take n rest) c.loop-left.stream due.stream
          next.stream _ _ _ _ _ _ due.ensures.goes (next.ensures.goes.0, next.ensures.goes.2));
      row = omega (arith, row, inv.row, length-append inv.done (take n rest));
      kept = kept-then c.args.stream c.loop-left.stream next.stream inv.kept kept;
      issued =
          subst (λ k. IssuesFirst begin k next.stream) (sym next.ensures.row)
          (issues-then begin due.stream next.stream due.stream.start.row last begun (omega arith)
          step is_due is_next);
      step =
          inr (subst (λ k. NoneAsksBefore k next.stream) (sym next.ensures.row)
          (left-one due.stream next.stream n last _ count next.ensures.issued undue
          c.rows_of_part-count.ensures.exact));
      numbered =
          after-done c.loop-left.stream.start.row next.stream.start.row n rest within
          row inv.numbered;
      sources =
          subst (λ (j : JobView). AreFromSources j (take (length rest - n) (drop n rest)))
          (sym job_is)
          (All-take (λ (row : Row). IsSourceOf (job_view c.loop-left.stream.setup.job) row.source)
          (length rest - n) (drop n rest)
          (All-drop (λ (row : Row). IsSourceOf (job_view c.loop-left.stream.setup.job) row.source) n
          rest inv.sources));
      source = subst (λ (j : JobView). IsSourceOf j c.args.call.now.source) (sym job_is) inv.source;
      closed = next.ensures.closed;
      read = next.ensures.read ∙ (due.ensures.read ∙ inv.read);
      faults = next.ensures.faults ∙ (due.ensures.faults ∙ inv.faults);
    }

pub returns-clause-goes : goal.returns-clause-goes
returns-clause-goes g c =
    let inv = c.loop-left.invariant in
    let none =
    emptied c.loop-left.left.now c.is_empty.result c.is_empty.ensures c.loop-left-test.false in
    let all : inv.done ≡ c.args.rows.now = sym (inv.rows ∙ (rw none (append-nil inv.done))) in
    subst (λ (rows : List Row). (goes : Goes c.args.call.now.names rows c.args.stream
    (g.S.Shelf.state c.args.shelf.now).files c.loop-left.stream
    (g.S.Shelf.state c.loop-left.shelf).files)
    × IsBooked goes.written c.args.books.now c.loop-left.books) all inv.goes

pub returns-clause-row : goal.returns-clause-row
returns-clause-row g c =
    let inv = c.loop-left.invariant in
    let none =
    emptied c.loop-left.left.now c.is_empty.result c.is_empty.ensures c.loop-left-test.false in
    let all : inv.done ≡ c.args.rows.now = sym (inv.rows ∙ (rw none (append-nil inv.done))) in
    subst (λ (rows : List Row). c.loop-left.stream.start.row
    ≡ c.args.stream.start.row + length rows) all inv.row

pub returns-clause-issued : goal.returns-clause-issued
returns-clause-issued g c =
    let inv = c.loop-left.invariant in
    let none =
    emptied c.loop-left.left.now c.is_empty.result c.is_empty.ensures c.loop-left-test.false in
    let all : inv.done ≡ c.args.rows.now = sym (inv.rows ∙ (rw none (append-nil inv.done))) in
    subst (λ k. IssuesFirst c.args.stream k c.loop-left.stream)
    (inv.row ∙ ap (λ (rows : List Row). c.args.stream.start.row + length rows) all) inv.issued

pub returns-clause-in_time : goal.returns-clause-in_time
returns-clause-in_time g c some =
    let inv = c.loop-left.invariant in
    let none =
    emptied c.loop-left.left.now c.is_empty.result c.is_empty.ensures c.loop-left-test.false in
    let all : inv.done ≡ c.args.rows.now = sym (inv.rows ∙ (rw none (append-nil inv.done))) in
    let row = inv.row ∙ ap (λ (rows : List Row). c.args.stream.start.row + length rows) all in
    elim inv.step [
      | inl same ↦ absurd (omega (arith, same, row, some))
      | inr from ↦ subst (λ k. NoneAsksBefore k c.loop-left.stream) row from
    ]
