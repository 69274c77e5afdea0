use Rattle.std.proofs.Common.{◌≡◌, ◌∙◌, ◌+◌, ◌-◌, ◌++◌, List, ap, drop, length, refl, subst, sym}
use Rattle.std.proofs.lemmas.List.Elements.{All-drop}
use Rattle.std.proofs.lemmas.Result.{err_from_is_err_and}
use Rattle.jobs.specs.Job.{job_view}
use Rattle.jobs.specs.Nodes.{AreFromSources, IsSourceOf}
use Rattle.tuple_trace.specs.FeedRows.{AreRowsAfter}
use Rattle.tuple_trace.specs.declared.row.Row.{Row}
use Rattle.stream_rows.specs.Reader.{fed_of}
use Rattle.stream_rows.specs.declared.sound.SoundRows.{SoundRows}
use Rattle.stream_run.proofs.GoesLemmas.{stands-then, stops-between, stops-then}
use Rattle.stream_step.specs.declared.stream.Stream.{Stream}
use Rattle.stream_turns.specs.Taken.{end_for, rows_to_run}
use Rattle.stream_turns.proofs.BookLemmas.{booked-by}
use Rattle.stream_turns.proofs.ReadyLemmas.{booked-rows, goes-without, read-alike, ready-ran}
use Rattle.stream_turns.proofs.ReadyLemmas.{rows-alike}
use Rattle.stream_turns.proofs.TakenLemmas.{none_ends}
use Rattle.stream_turns.proofs.TextLemmas.{left-piece}
use Rattle.stream_turns.proofs.turns.run_piece.Goals as goal

pub returns-in_err-rows-clause-stopped : goal.returns-in_err-rows-clause-stopped
returns-in_err-rows-clause-stopped g c =
    let fault = err_from_is_err_and c.from_residual.result c.from_residual.ensures.1 in
    rw fault.1 (stops-between c.args.call.now.names c.args.stream _ _ refl)

pub rows_after-rows-requires-clause-numbered : goal.rows_after-rows-requires-clause-numbered
rows_after-rows-requires-clause-numbered g c =
    rw (c.fed-fed.ensures.value, c.as_slice.ensures) c.in_ok-rows.ensures.numbered

pub run_all-requires-clause-numbered : goal.run_all-requires-clause-numbered
run_all-requires-clause-numbered g c κs within =
    subst (λ (s : Stream). AreRowsAfter s.start.row c.rows_after-rows.result.now) c.stream.view_is
    c.rows_after-rows.ensures.numbered

pub run_all-requires-clause-sources : goal.run_all-requires-clause-sources
run_all-requires-clause-sources g c κs within =
    subst (λ (rows : List Row). AreFromSources (job_view c.args.stream.setup.job) rows)
    (sym c.rows_after-rows.ensures.are)
    (All-drop (λ (row : Row). IsSourceOf (job_view c.args.stream.setup.job) row.source) _
    c.as_slice.result.now
    (rw c.as_slice.ensures (subst (λ (s : Stream). AreFromSources (job_view s.setup.job)
    c.in_ok-rows.field-0.rows) c.stream.view_is c.in_ok-rows.ensures.sources)))

pub save_if_due-requires-clause-stands : goal.save_if_due-requires-clause-stands
save_if_due-requires-clause-stands g c =
    stands-then c.args.call.now.behind c.args.call.now.names c.rows_after-rows.result.now
    c.args.stream c.in_ok-stream.stream _ _ c.requires.stands c.in_ok-stream.ensures.goes.0

pub returns-in_err-stream-2-clause-stopped : goal.returns-in_err-stream-2-clause-stopped
returns-in_err-stream-2-clause-stopped g c =
    let fault =
    err_from_is_err_and c.from_residual-in_err-stream-2.result
    c.from_residual-in_err-stream-2.ensures.1 in
    rw fault.1
    (stops-then c.args.call.now.names c.rows_after-rows.result.now c.args.stream
    c.in_ok-stream.stream _ _ _ c.in_ok-stream.ensures.goes.0
    (stops-between c.args.call.now.names c.in_ok-stream.stream _ _
    c.in_err-stream-2.ensures.stopped))

pub returns-clause-ready : goal.returns-clause-ready
returns-clause-ready g c =
    let are : c.rows_after-rows.result.now
    ≡ drop (c.args.stream.start.row - fed_of c.args.inputs.now.reader) c.in_ok-rows.field-0.rows =
    rw (c.fed-fed.ensures.value, c.as_slice.ensures)
    at (subst (λ (s : Stream). c.rows_after-rows.result.now ≡ drop (s.start.row - c.fed-fed.result)
    c.as_slice.result.now) c.stream.view_is c.rows_after-rows.ensures.are) in
    rw c.in_ok-stream-2.ensures.same
    (ready-ran c.args.call.now.source c.args.call.now.every c.args.stream c.in_ok-stream.stream
    c.args.inputs.now _
    c.in_ok-rows.field-0.rows c.requires.ready c.in_ok-stream.ensures.kept refl
    c.in_ok-rows.ensures.fed c.in_ok-rows.ensures.few
    (c.in_ok-stream.ensures.row ∙ ap (λ (rows : List Row). c.args.stream.start.row + length rows)
    are) c.in_ok-stream-2.ensures.due)

pub returns-clause-goes : goal.returns-clause-goes
returns-clause-goes g c = (
  c.rows_after-rows.result.now,
  goes-without c.args.call.now.names c.rows_after-rows.result.now
      c.args.stream c.in_ok-stream.stream c.in_ok-stream-2.stream _ _ _
      c.in_ok-stream.ensures.goes.0 c.in_ok-stream-2.ensures.goes.0,
)

pub returns-clause-stands : goal.returns-clause-stands
returns-clause-stands g c =
    stands-then c.args.call.now.behind c.args.call.now.names c.rows_after-rows.result.now
    c.args.stream c.in_ok-stream-2.stream _ _ c.requires.stands
    (goes-without c.args.call.now.names c.rows_after-rows.result.now c.args.stream
    c.in_ok-stream.stream c.in_ok-stream-2.stream _ _ _ c.in_ok-stream.ensures.goes.0
    c.in_ok-stream-2.ensures.goes.0)

pub returns-clause-ran : goal.returns-clause-ran
returns-clause-ran g c tap skipped text read cut =
    let stream = c.args.stream in
    let piece = c.args.piece.now in
    let job = job_view stream.setup.job in
    let reader = c.args.inputs.now.reader in
    let sound = c.in_ok-rows.field-0 in
    let rows = c.rows_after-rows.result.now in
    let names = c.args.call.now.names in
    let read-here = read-alike skipped text reader _ _ (sym c.stream.view_is) read in
    let all_are =
    rows-alike skipped text piece sound _ _ c.stream.view_is
    (c.in_ok-rows.ensures.rows skipped text read-here cut) in
    let are : rows ≡ drop (stream.start.row - fed_of reader) sound.rows =
    rw (c.fed-fed.ensures.value, c.as_slice.ensures)
    at (subst (λ (s : Stream). rows ≡ drop (s.start.row - c.fed-fed.result)
    c.as_slice.result.now) c.stream.view_is c.rows_after-rows.ensures.are) in
    let run : rows ≡ rows_to_run job skipped (text ++ piece) stream.start.row =
    are
    ∙ left-piece job skipped text piece reader stream.start.row sound read c.requires.ready.fed
    all_are in
    let goes =
    booked-rows names rows _ stream c.in_ok-stream.stream c.in_ok-stream-2.stream _ _ _ _ _ _ run
    c.in_ok-stream.ensures.goes c.in_ok-stream-2.ensures.goes in
    record {
      ran = record {
        goes = goes.0;
        booked = booked-by stream goes.0.written c.args.inputs.now _ refl refl
            (c.in_ok-stream-2.ensures.read ∙ c.in_ok-stream.ensures.read) goes.1;
        row =
            ap (λ (s : Stream). s.start.row) c.in_ok-stream-2.ensures.same
            ∙ c.in_ok-stream.ensures.row
            ∙ ap (λ (r : List Row). stream.start.row + length r) run;
      };
      end_is = c.end_for.ensures ∙ ap (λ (s : SoundRows). end_for s.fault) (sym all_are);
      read = λ none. read-alike skipped (text ++ piece) _ _ _ c.stream.view_is
          (c.in_ok-rows.ensures.read skipped text read-here cut
          (none_ends sound.fault (sym c.end_for.ensures ∙ none)));
      pieces_are = refl;
    }
