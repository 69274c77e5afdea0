use Rattle.std.proofs.Common.{[], refl}
use Rattle.stream_run.proofs.GoesLemmas.{goes-same}
use Rattle.stream_turns.specs.Taken.{at}
use Rattle.stream_call.specs.Ended.{IsLeftBy, stream_leaves, terms_of}
use Rattle.stream_call.proofs.EndedLemmas.{none-so, nothing-read, some-so}
use Rattle.stream_call.proofs.calls.run_opened.Goals as goal

pub run_to_end-requires-clause-stands : goal.run_to_end-requires-clause-stands
run_to_end-requires-clause-stands g c κs within =
    rw c.names_in.ensures
    (record {
      begin = c.args.opened.stream;
      before = (g.S.Shelf.state c.args.shelf.now).files;
      begins = c.requires.opened.begins;
      rows = [];
      goes = goes-same _ c.args.opened.stream c.args.opened.stream _ _ refl refl refl refl;
    })

pub run_to_end-requires-clause-ready : goal.run_to_end-requires-clause-ready
run_to_end-requires-clause-ready g c κs within = rw c.every_of.ensures c.requires.opened.ready

pub run_to_end-requires-clause-unread : goal.run_to_end-requires-clause-unread
run_to_end-requires-clause-unread g c κs within =
    let opened = c.requires.opened in
    nothing-read _ (opened.unread _) opened.goes_on

pub returns-clause-whole : goal.returns-clause-whole
returns-clause-whole g c =
    rw c.err-fault.ensures.value
    (none-so c.run_to_end.result _
    (rw (c.names_in.ensures, c.every_of.ensures) at c.run_to_end.ensures.whole))

pub returns-clause-left : goal.returns-clause-left
returns-clause-left g c =
    let opened = c.args.opened in
    let shelf = g.S.Shelf.state c.args.shelf.now in
    rw c.err-fault.ensures.value
    (some-so c.run_to_end.result
    (IsLeftBy (terms_of c.args.files.now opened)
    (at opened.stream shelf.files opened.inputs (g.T.Tap.state c.args.tap.now)) shelf.faults
    (stream_leaves c.run_to_end.new.inputs (g.T.Tap.state c.run_to_end.new.tap)
    (g.S.Shelf.state c.run_to_end.new.shelf)))
    (rw (c.names_in.ensures, c.every_of.ensures) at c.run_to_end.ensures.left))
