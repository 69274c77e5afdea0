use Rattle.std.proofs.Common.{◌∙◌, ap, arith, refl, sym}
use Rattle.std.specs.FinMap.{entries}
use Rattle.audit_restore.proofs.CountLemmas.{same_more}
use Rattle.audit_restore.proofs.counts.check_counts.Goals as goal

pub loop-worker-preserved : goal.loop-worker-preserved
loop-worker-preserved c =
    let w = c.loop-worker.worker in
    same_more entries c.args.told.now c.args.states.now w c.index-told-place.result c.index-states-place.result c.loop-worker.invariant
    (omega (arith, c.loop-worker-test.true, c.requires.told)) (omega (arith, c.loop-worker-test.true, c.requires.states))
    (sym c.index-told-place.is ∙ (sym c.as_slice.ensures ∙ (c.if-not-are_counts.ensures.0 refl ∙ ap entries c.index-states-place.is)))
