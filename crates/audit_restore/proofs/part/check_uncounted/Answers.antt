use Rattle.std.proofs.Common.{◌∙◌, Some, ap, arith, refl, sym}
use Rattle.std.proofs.lemmas.Option.{slice_get-get_or}
use Rattle.audit_restore.proofs.PartLemmas.{one_more_untold}
use Rattle.audit_restore.proofs.part.check_uncounted.Goals as goal

pub loop-worker-preserved : goal.loop-worker-preserved
loop-worker-preserved c =
    let w = c.loop-worker.worker in
    one_more_untold c.args.told.now w c.loop-worker.invariant
    (slice_get-get_or c.args.told.now w c.index-told-place.result (omega (arith, c.loop-worker-test.true, c.requires))
    ∙ ap Some (sym c.index-told-place.is ∙ (sym c.as_slice.ensures ∙ c.if-not-is_untold.ensures.0 refl)))
