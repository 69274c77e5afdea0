use Rattle.std.proofs.Common.{◌≡◌, subst, sym}
use Rattle.std.proofs.lemmas.Result.{IfOk-at_ok}
use Rattle.payments.specs.Memory.{shelf_state_of}
use Rattle.tuple_trace.specs.FeedRows.{AreRowsAfter}
use Rattle.stream_run.proofs.GoesLemmas.{stands-then}
use Rattle.test_streams.proofs.ToldLemmas.{stands_first}
use Rattle.test_streams.proofs.tests.told.run_one.Goals as goal

pub run_rows-requires-clause-numbered : goal.run_rows-requires-clause-numbered
run_rows-requires-clause-numbered g c κs within =
    subst (λ k. AreRowsAfter k c.args.rows.now) (sym c.requires.first) c.requires.numbered

pub run_rows-requires-clause-stands : goal.run_rows-requires-clause-stands
run_rows-requires-clause-stands g c κs within =
    stands_first c.args.call.now.behind c.args.call.now.names c.args.stream
    (shelf_state_of c.args.shelf.now).files c.requires.behind c.requires.first

pub save_stream-requires-clause-stands : goal.save_stream-requires-clause-stands
save_stream-requires-clause-stands g c =
    let before = (shelf_state_of c.args.shelf.now).files in
    stands-then c.args.call.now.behind c.args.call.now.names c.args.rows.now c.args.stream
    c.expect-ran.result before (shelf_state_of c.run_rows.new.shelf).files
    (stands_first c.args.call.now.behind c.args.call.now.names c.args.stream before
    c.requires.behind c.requires.first)
    (IfOk-at_ok _ c.expect-ran.ensures c.run_rows.ensures.goes).0
