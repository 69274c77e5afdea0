use Rattle.std.proofs.Common.{◌∙◌, sym}
use Rattle.std.specs.Prelude.{option_copied}
use Rattle.savepoint_file.proofs.ReadLemmas.{order-more}
use Rattle.savepoint_file.proofs.read.check_order.Goals as goal

pub loop-place-preserved : goal.loop-place-preserved
loop-place-preserved c =
    order-more c.args.counts.now c.args.first c.loop-place.place (option_copied c.loop-place.before) c.in-Some.placed c.index-counts-place.result c.loop-place-test.true c.index-counts-place.is (cc c.in-Some.is)
    (sym c.stands_behind.ensures ∙ c.if-not-stands_behind.false)
    ∙ c.loop-place.invariant
