use Rattle.std.proofs.Common.{[], ap, arith, refl}
use Rattle.std.proofs.lemmas.Result.{IfErr-weaker, err_from_is_err_and}
use Rattle.csv.proofs.WriteFacts.{on_ok_both}
use Rattle.stream_run.proofs.GoesLemmas.{stops-between, stops-then}
use Rattle.stream_rows.specs.Reader.{fed_of}
use Rattle.stream_call.specs.Ended.{terms}
use Rattle.stream_call.proofs.EndedLemmas.{ends-by, ends-not, ends-whole, given-up-in}
use Rattle.stream_call.proofs.EndedLemmas.{saved-at}
use Rattle.stream_call.proofs.calls.run_to_end.Goals as goal

pub returns-in-Input-clause-whole : goal.returns-in-Input-clause-whole
returns-in-Input-clause-whole g c =
    let call = c.args.call.now in
    let ran = c.in_ok-stream in
    on_ok_both c.end_whole.result
    (λ enough ended. ends-whole c.parts_go_on.ensures.later c.parts_go_on.ensures.first
    (terms call.names call.every call.source) _ ran.field-0.stream
    (g.S.Shelf.state c.run_stream.new.shelf).files c.run_stream.new.inputs _
    (rw c.in-Input.is at (ran.ensures.taken (fed_of c.args.inputs.now.reader) []
    c.requires.unread))
    (omega (arith, enough, ran.ensures.ready.fed, ap fed_of c.end_whole.ensures.kept.reader))
    ran.ensures.ready.known c.end_whole.ensures.kept ended)
    c.end_whole.ensures.enough c.end_whole.ensures.ended

pub returns-in-Input-clause-left : goal.returns-in-Input-clause-left
returns-in-Input-clause-left g c =
    let call = c.args.call.now in
    let ran = c.in_ok-stream in
    IfErr-weaker c.end_whole.result _ _
    (λ why un. ends-not (terms call.names call.every call.source) _ _ _ why ran.field-0.stream
    (g.S.Shelf.state c.run_stream.new.shelf) c.run_stream.new.inputs
    (rw c.in-Input.is at (ran.ensures.taken (fed_of c.args.inputs.now.reader) []
    c.requires.unread)) ran.ensures.writes c.end_whole.ensures.kept un) c.end_whole.ensures.left

pub returns-in_err-save_if_asked-in-Fault-clause-left :
    goal.returns-in_err-save_if_asked-in-Fault-clause-left
returns-in_err-save_if_asked-in-Fault-clause-left g c =
    let call = c.args.call.now in
    let ran = c.in_ok-stream in
    let lost = c.in_err-save_if_asked-in-Fault in
    let back = c.from_residual-in_err-save_if_asked-in-Fault in
    let fault = err_from_is_err_and back.result back.ensures.1 in
    rw (fault.1, fault.2)
    (given-up-in (terms call.names call.every call.source) _ _ _ lost.field-0.0
    ((g.S.Shelf.state c.run_stream.new.shelf).faults, ran.ensures.writes, lost.ensures.cause)
    (stops-then call.names ran.ensures.goes.0 c.args.stream ran.field-0.stream _ _ _
    ran.ensures.goes.1
    (stops-between call.names ran.field-0.stream _ _ lost.ensures.stopped)))

pub returns-in_ok-save_if_asked-in-Fault-clause-left :
    goal.returns-in_ok-save_if_asked-in-Fault-clause-left
returns-in_ok-save_if_asked-in-Fault-clause-left g c =
    let call = c.args.call.now in
    let ran = c.in_ok-stream in
    let saved = c.in_ok-save_if_asked-in-Fault in
    ends-by (terms call.names call.every call.source) _ _ _ c.in-Fault.fault ran.field-0.stream
    (g.S.Shelf.state c.run_stream.new.shelf).files c.run_stream.new.inputs
    (rw c.in-Fault.is at (ran.ensures.taken (fed_of c.args.inputs.now.reader) []
    c.requires.unread)) ran.ensures.ready.known
    (record { reader = refl; known = refl; refused = refl; read = saved.ensures.read })
    (saved-at (terms call.names call.every call.source) ran.field-0.stream saved.field-0
    c.run_stream.new.inputs.books c.save_if_asked.new.books _ _ saved.ensures.same saved.ensures.goes
    saved.ensures.saved)
