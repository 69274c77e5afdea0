use Rattle.std.proofs.Common.{◌∙◌, [], refl}
use Rattle.std.proofs.lemmas.Result.{IfOk-weaker, err_from_is_err_and, on_err_weaker}
use Rattle.stream_run.proofs.GoesLemmas.{goes-same, goes-then, stands-then, stops-between}
use Rattle.stream_run.proofs.GoesLemmas.{stops-then}
use Rattle.stream_turns.specs.Taken.{at}
use Rattle.stream_turns.specs.declared.turns.Piece.TheVariants as piece
use Rattle.stream_turns.proofs.BookLemmas.{booked-alike, booked-reading}
use Rattle.stream_turns.proofs.FaultLemmas.{given-up-memory}
use Rattle.stream_turns.proofs.TakenLemmas.{IsBetween, between-pieces, ends-so, read-before}
use Rattle.stream_turns.proofs.TakenLemmas.{turned-end}
use Rattle.stream_turns.proofs.TakenLemmas.{piece-is, text-is, turned-piece, turned-unread}
use Rattle.stream_turns.proofs.turns.turn.Goals as goal

pub returns-in_err-bytes-clause-stopped : goal.returns-in_err-bytes-clause-stopped
returns-in_err-bytes-clause-stopped g c =
    let fault = err_from_is_err_and c.from_residual.result c.from_residual.ensures.1 in
    rw fault.1 (stops-between c.args.call.now.names c.args.stream _ _ refl)

pub returns-in_err-stream-in-Bytes-clause-stopped : goal.returns-in_err-stream-in-Bytes-clause-stopped
returns-in_err-stream-in-Bytes-clause-stopped g c =
    let fault =
    err_from_is_err_and c.from_residual-in_err-stream-in-Bytes.result
    c.from_residual-in_err-stream-in-Bytes.ensures.1 in
    rw fault.1 (stops-between c.args.call.now.names c.args.stream _ _
    c.in_err-stream-in-Bytes.ensures.files)

pub run_piece-requires-clause-stands : goal.run_piece-requires-clause-stands
run_piece-requires-clause-stands g c κs within =
    let next = c.in_ok-stream-in-Bytes in
    stands-then c.args.call.now.behind c.args.call.now.names [] c.args.stream next.stream _ _
    c.requires.stands
    (goes-same c.args.call.now.names c.args.stream next.stream _ _ next.ensures.setup
    next.ensures.start next.ensures.exact next.ensures.files)

pub returns-in_ok-stream-in-Bytes-clause-goes : goal.returns-in_ok-stream-in-Bytes-clause-goes
returns-in_ok-stream-in-Bytes-clause-goes g c =
    let next = c.in_ok-stream-in-Bytes in
    let same =
    goes-same c.args.call.now.names c.args.stream next.stream _ _ next.ensures.setup
    next.ensures.start next.ensures.exact next.ensures.files in
    IfOk-weaker c.run_piece.result _ _
    (λ turned goes. (
      goes.0,
      goes-then c.args.call.now.names [] goes.0 c.args.stream next.stream
          turned.stream _ _ _ same goes.1,
    )) c.run_piece.ensures.goes

pub returns-in_ok-stream-in-Bytes-clause-stopped : goal.returns-in_ok-stream-in-Bytes-clause-stopped
returns-in_ok-stream-in-Bytes-clause-stopped g c =
    let next = c.in_ok-stream-in-Bytes in
    let same =
    goes-same c.args.call.now.names c.args.stream next.stream _ _ next.ensures.setup
    next.ensures.start next.ensures.exact next.ensures.files in
    on_err_weaker c.run_piece.result
    (λ stops. stops-then c.args.call.now.names [] c.args.stream next.stream _ _ _ same stops)
    c.run_piece.ensures.stopped

pub returns-in-End-clause-goes : goal.returns-in-End-clause-goes
returns-in-End-clause-goes g c =
    ([], goes-same c.args.call.now.names c.args.stream c.args.stream _ _ refl refl refl refl)

pub returns-in-Fault-clause-goes : goal.returns-in-Fault-clause-goes
returns-in-Fault-clause-goes g c =
    ([], goes-same c.args.call.now.names c.args.stream c.args.stream _ _ refl refl refl refl)

pub returns-in_ok-stream-in-Bytes-clause-taken : goal.returns-in_ok-stream-in-Bytes-clause-taken
returns-in_ok-stream-in-Bytes-clause-taken g c =
    let (read, goes_on, some, cut, faults) =
    piece-is _ _ _ _ _ (piece.Bytes c.in-Bytes.bytes) c.in-Bytes.is c.in_ok-bytes.ensures in
    let next = c.in_ok-stream-in-Bytes in
    let names = c.args.call.now.names in
    let tap = g.T.Tap.state c.read_piece.new.tap in
    let a =
    at c.args.stream (g.S.Shelf.state c.args.shelf.now).files c.args.inputs.now
    (g.T.Tap.state c.args.tap.now) in
    let m = at next.stream (g.S.Shelf.state c.take_later.new.shelf).files c.take_later.new.inputs
    tap in
    let between : IsBetween a m =
    record {
      setup = next.ensures.setup;
      start = next.ensures.start;
      exact = next.ensures.exact;
      files = next.ensures.files;
      reader = next.ensures.reader;
      booked = booked-alike c.args.stream [] _ c.args.inputs.now
          c.take_later.new.inputs refl refl refl
          (booked-reading _ _ _ _ _ _ _ next.stream next.ensures.taken next.ensures.tally);
    } in
    IfOk-weaker c.run_piece.result _ _
    (λ turned run skipped text has.
    let b =
    at turned.stream (g.S.Shelf.state c.run_piece.new.shelf).files c.run_piece.new.inputs tap in
    let piece = c.in-Bytes.bytes in
    let same = next.ensures.pieces in
    turned-piece c.later_requests_are_judged_later.ensures names skipped text piece a m b _ has between read same goes_on turned.end some cut
    faults
    (text-is names skipped text c.as_slice.result.now piece m b turned.end c.as_slice.ensures
    (run tap skipped text
    (read-before c.later_requests_are_judged_later.ensures names skipped text piece a m b _ has between read same goes_on)
    (has.cut goes_on))))
    c.run_piece.ensures.ran

pub returns-in-End-clause-taken : goal.returns-in-End-clause-taken
returns-in-End-clause-taken g c skipped text has =
    let (read, over, faults) =
    piece-is _ _ _ _ _ piece.End c.in-End.is c.in_ok-bytes.ensures in
    turned-end c.args.call.now.names skipped text _ _ c.end_of.result has c.requires.ready.fed
    read.gathered (λ was. over) (between-pieces _ _ refl refl refl refl refl refl)
    (ends-so skipped text _ _ c.end_of.result has.read (read.whole has.whole over) c.end_of.ensures)

pub returns-in-Fault-clause-taken : goal.returns-in-Fault-clause-taken
returns-in-Fault-clause-taken g c skipped text has =
    let (read, over, unreadable) =
    piece-is _ _ _ _ _ (piece.Fault c.in-Fault.fault) c.in-Fault.is c.in_ok-bytes.ensures in
    turned-unread c.args.call.now.names skipped text _ _ c.in-Fault.fault has
    c.requires.ready.fed read.gathered (λ was. over ∙ was)
    (between-pieces _ _ refl refl refl refl refl refl) unreadable

pub returns-in_err-bytes-clause-cause : goal.returns-in_err-bytes-clause-cause
returns-in_err-bytes-clause-cause g c =
    let fault = err_from_is_err_and c.from_residual.result c.from_residual.ensures.1 in
    rw (fault.1, fault.2)
    (given-up-memory c.args.call.now.names (g.S.Shelf.state c.args.shelf.now).faults
    (g.S.Shelf.state c.args.shelf.now).faults refl)

pub returns-in_err-stream-in-Bytes-clause-cause : goal.returns-in_err-stream-in-Bytes-clause-cause
returns-in_err-stream-in-Bytes-clause-cause g c =
    let fault =
    err_from_is_err_and c.from_residual-in_err-stream-in-Bytes.result
    c.from_residual-in_err-stream-in-Bytes.ensures.1 in
    rw (fault.1, fault.2)
    (given-up-memory c.args.call.now.names (g.S.Shelf.state c.args.shelf.now).faults
    (g.S.Shelf.state c.take_later.new.shelf).faults c.in_err-stream-in-Bytes.ensures.writes)
