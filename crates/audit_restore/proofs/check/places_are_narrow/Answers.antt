use Rattle.std.proofs.Common.{◌<◌, ◌^◌, subst}
use Rattle.sink_journal.specs.declared.audit.Noted.{Noted}
use Rattle.audit_restore.proofs.CountLemmas.{all_more, all_there}
use Rattle.audit_restore.proofs.check.places_are_narrow.Goals as goal

pub loop-noted-preserved : goal.loop-noted-preserved
loop-noted-preserved c =
    all_more (λ (n : Noted). n.place < 2 ^ 32) c.args.refused.now c.loop-noted.noted-index _ c.loop-noted.invariant c.loop-noted-test.true (subst (λ k. k < 2 ^ 32) c.place_of-place.ensures.value c.place_of-place.ensures.narrow)

pub returns : goal.returns
returns c = all_there (λ (n : Noted). n.place < 2 ^ 32) c.args.refused.now c.loop-noted.noted-index c.loop-noted.invariant c.loop-noted-test.false
