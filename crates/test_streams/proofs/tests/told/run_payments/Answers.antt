use Rattle.std.proofs.Common.{◌≡◌, ℕ, List, subst, sym}
use Rattle.std.proofs.lemmas.Result.{IfOk-at_ok}
use Rattle.tuple_trace.specs.FeedRows.{AreRowsAfter}
use Rattle.tuple_trace.specs.declared.row.Row.{Row}
use Rattle.test_streams.proofs.tests.told.run_payments.Goals as goal

pub run_one-requires-clause-numbered : goal.run_one-requires-clause-numbered
run_one-requires-clause-numbered g c κs within =
    subst (λ (rows : List Row). AreRowsAfter 0 rows) (sym c.as_slice-rows.ensures)
    (subst (λ (k : ℕ). AreRowsAfter k c.expect-sound.result.rows) c.new-reader.ensures.fed
    (IfOk-at_ok _ c.expect-sound.ensures c.read.ensures.numbered))
