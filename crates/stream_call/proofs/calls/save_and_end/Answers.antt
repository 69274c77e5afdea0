use Rattle.std.proofs.Common.{inr, refl, sym}
use Rattle.std.proofs.lemmas.Result.{err_from_is_err_and}
use Rattle.flow_model.specs.Record.{record_view}
use Rattle.stream_call.specs.Ended.{terms}
use Rattle.stream_call.proofs.EndedLemmas.{saved-at}
use Rattle.stream_call.proofs.calls.save_and_end.Goals as goal

pub returns-clause-ended : goal.returns-clause-ended
returns-clause-ended g c =
    let call = c.args.call.now in
    let next = c.in_ok-stream.ensures in
    let ran = c.in_ok-_last in
    let saved = saved-at (terms call.names call.every call.source) c.args.stream
    c.in_ok-stream.stream c.args.inputs.now.books c.save_if_asked.new.books _ _ next.same
    next.goes next.saved in (
      record {
        saved = (g.S.Shelf.state c.save_if_asked.new.shelf).files;
        is_saved = saved.0;
        setup = ran._last.setup;
        left = record_view ran._last;
        last = rw (sym next.same) ran.ensures.run;
        files_are = ran.ensures.files;
      },
      saved.1,
    )

pub returns-in_err-_last-clause-left : goal.returns-in_err-_last-clause-left
returns-in_err-_last-clause-left g c =
    let call = c.args.call.now in
    let next = c.in_ok-stream.ensures in
    let fault =
    err_from_is_err_and c.from_residual-in_err-_last.result
    c.from_residual-in_err-_last.ensures.1 in
    rw (fault.1, fault.2) (
      rw (sym next.faults) c.in_err-_last.ensures.cause,
      inr (record {
        saved = (g.S.Shelf.state c.save_if_asked.new.shelf).files;
        is_saved = (saved-at (terms call.names call.every call.source) c.args.stream
            c.in_ok-stream.stream c.args.inputs.now.books c.save_if_asked.new.books _ _ next.same
            next.goes next.saved).0;
        stopped = rw (sym next.same) c.in_err-_last.ensures.stopped;
      }),
    )

pub returns-in_err-stream-clause-kept : goal.returns-in_err-stream-clause-kept
returns-in_err-stream-clause-kept g c =
    record { reader = refl; known = refl; refused = refl; read = c.save_if_asked.ensures.read }

pub returns-in_err-_last-clause-kept : goal.returns-in_err-_last-clause-kept
returns-in_err-_last-clause-kept g c =
    record { reader = refl; known = refl; refused = refl; read = c.save_if_asked.ensures.read }

pub returns-clause-kept : goal.returns-clause-kept
returns-clause-kept g c =
    record { reader = refl; known = refl; refused = refl; read = c.save_if_asked.ensures.read }
