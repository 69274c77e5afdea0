use Rattle.std.proofs.Common.{◌≡◌, ◌∙◌, refl}
use Rattle.std.proofs.lemmas.Result.{err_from_is_err_and}
use Rattle.stream_run.proofs.GoesLemmas.{stands-then, stops-between}
use Rattle.stream_run.proofs.StepLemmas.{kept, stopped, tally_as, written}
use Rattle.stream_run.proofs.step.run_rows.Goals as goal

pub returns-in_err-part-clause-stopped : goal.returns-in_err-part-clause-stopped
returns-in_err-part-clause-stopped g c =
    let fault = err_from_is_err_and c.from_residual.result c.from_residual.ensures.1 in
    rw fault.1 (stops-between c.args.call.now.names c.args.stream _ _ refl)

pub returns-in_err-made-clause-stopped : goal.returns-in_err-made-clause-stopped
returns-in_err-made-clause-stopped g c =
    let fault =
    err_from_is_err_and c.from_residual-in_err-made.result
    c.from_residual-in_err-made.ensures.1 in
    rw fault.1 (stops-between c.args.call.now.names c.args.stream _ _ refl)

pub returns-in_err-append_part-clause-stopped : goal.returns-in_err-append_part-clause-stopped
returns-in_err-append_part-clause-stopped g c =
    let fault =
    err_from_is_err_and c.from_residual-in_err-append_part.result
    c.from_residual-in_err-append_part.ensures.1 in
    rw fault.1
    (stopped c.parts_go_on.ensures.later c.parts_go_on.ensures.first c.args.stream
    c.go_on-stream.result c.args.call.now.source c.in_ok-part.part.last c.args.rows.now
    c.in_ok-part.part.ran c.in_ok-part.ensures.run c.in_ok-part.ensures.last
    c.go_on-stream.ensures.setup c.go_on-stream.ensures.start
    (c.go_on-stream.ensures.exact ∙ c.in_ok-part.ensures.exact)
    c.args.call.now.names c.args.books.now.refused.items _ _ c.in_ok-made.made.texts.alerts
    c.in_ok-made.made.texts.audit c.in_ok-made.ensures.alerts c.in_ok-made.ensures.audit
    c.in_err-append_part.ensures.stopped)

pub returns-in_err-append_part-clause-cause : goal.returns-in_err-append_part-clause-cause
returns-in_err-append_part-clause-cause g c =
    let fault =
    err_from_is_err_and c.from_residual-in_err-append_part.result
    c.from_residual-in_err-append_part.ensures.1 in
    rw (fault.1, fault.2) c.in_err-append_part.ensures.cause

pub part_ended-requires : goal.part_ended-requires
part_ended-requires g c =
    let tally = tally_as c.in_ok-made.made.tally _ _ _ _ c.in_ok-made.ensures.more
    c.in_ok-made.ensures.longer c.in_ok-made.ensures.unsaved c.in_ok-made.ensures.shown in
    let keeps = kept c.parts_go_on.ensures.later c.parts_go_on.ensures.first c.args.stream
    c.go_on-stream.result c.args.call.now.source c.in_ok-part.part.last c.args.rows.now
    c.in_ok-part.part.ran c.in_ok-part.ensures.run c.in_ok-part.ensures.last
    c.go_on-stream.ensures.setup c.go_on-stream.ensures.start
    (c.go_on-stream.ensures.exact ∙ c.in_ok-part.ensures.exact)
    c.in_ok-part.part.pending c.go_on-stream.ensures.pending c.in_ok-part.ensures.asked in
    let goes = written c.parts_go_on.ensures.later c.parts_go_on.ensures.first c.args.stream
    c.go_on-stream.result c.args.call.now.source c.in_ok-part.part.last c.args.rows.now
    c.in_ok-part.part.ran c.in_ok-part.ensures.run c.in_ok-part.ensures.last
    c.go_on-stream.ensures.setup c.go_on-stream.ensures.start
    (c.go_on-stream.ensures.exact ∙ c.in_ok-part.ensures.exact)
    c.args.call.now.names c.args.books.now (record {
      refused = c.clear.new.self;
      read = c.args.books.now.read;
      tally = c.in_ok-made.made.tally;
    }) _ _ c.in_ok-made.made.texts.alerts c.in_ok-made.made.texts.audit
    c.in_ok-made.ensures.alerts c.in_ok-made.ensures.audit c.in_ok-append_part.ensures.whole
    c.clear.ensures.items tally keeps in
    rw (c.end.ensures.behind, c.end.ensures.names, c.end.ensures.stream)
    (stands-then c.args.call.now.behind c.args.call.now.names c.args.rows.now c.args.stream
    c.go_on-stream.result _ _ c.requires.stands goes.0)

pub returns-clause-goes : goal.returns-clause-goes
returns-clause-goes g c =
    let tally = tally_as c.in_ok-made.made.tally _ _ _ _ c.in_ok-made.ensures.more
    c.in_ok-made.ensures.longer c.in_ok-made.ensures.unsaved c.in_ok-made.ensures.shown in
    let keeps = kept c.parts_go_on.ensures.later c.parts_go_on.ensures.first c.args.stream
    c.go_on-stream.result c.args.call.now.source c.in_ok-part.part.last c.args.rows.now
    c.in_ok-part.part.ran c.in_ok-part.ensures.run c.in_ok-part.ensures.last
    c.go_on-stream.ensures.setup c.go_on-stream.ensures.start
    (c.go_on-stream.ensures.exact ∙ c.in_ok-part.ensures.exact)
    c.in_ok-part.part.pending c.go_on-stream.ensures.pending c.in_ok-part.ensures.asked in
    written c.parts_go_on.ensures.later c.parts_go_on.ensures.first c.args.stream
    c.go_on-stream.result c.args.call.now.source c.in_ok-part.part.last c.args.rows.now
    c.in_ok-part.part.ran c.in_ok-part.ensures.run c.in_ok-part.ensures.last
    c.go_on-stream.ensures.setup c.go_on-stream.ensures.start
    (c.go_on-stream.ensures.exact ∙ c.in_ok-part.ensures.exact)
    c.args.call.now.names c.args.books.now (record {
      refused = c.clear.new.self;
      read = c.args.books.now.read;
      tally = c.in_ok-made.made.tally;
    }) _ _ c.in_ok-made.made.texts.alerts c.in_ok-made.made.texts.audit
    c.in_ok-made.ensures.alerts c.in_ok-made.ensures.audit c.in_ok-append_part.ensures.whole
    c.clear.ensures.items tally keeps

pub returns-clause-kept : goal.returns-clause-kept
returns-clause-kept g c =
    kept c.parts_go_on.ensures.later c.parts_go_on.ensures.first c.args.stream
    c.go_on-stream.result c.args.call.now.source c.in_ok-part.part.last c.args.rows.now
    c.in_ok-part.part.ran c.in_ok-part.ensures.run c.in_ok-part.ensures.last
    c.go_on-stream.ensures.setup c.go_on-stream.ensures.start
    (c.go_on-stream.ensures.exact ∙ c.in_ok-part.ensures.exact)
    c.in_ok-part.part.pending c.go_on-stream.ensures.pending c.in_ok-part.ensures.asked
