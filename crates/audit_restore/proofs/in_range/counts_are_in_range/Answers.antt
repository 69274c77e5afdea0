use Rattle.std.proofs.Common.{◌∙◌, All, ap, subst}
use Rattle.std.specs.FinMap.{entries}
use Rattle.keyed_state.specs.Counts.{Counts}
use Rattle.flow_model.specs.Begin.{Begin}
use Rattle.audit_laws.specs.Range.{AreInRange}
use Rattle.audit_restore.proofs.CountLemmas.{all_more, all_there}
use Rattle.audit_restore.proofs.in_range.counts_are_in_range.Goals as goal

pub loop-state-preserved : goal.loop-state-preserved
loop-state-preserved c =
    all_more (λ (counts : Counts). AreInRange (entries counts))
    c.as_slice-state-items.result.now c.loop-state.state-index c.state-item.result
    c.loop-state.invariant c.loop-state-test.true
    (subst (λ (counts : Counts). AreInRange (entries counts)) c.state-item.is
    c.are_in_range.ensures)

pub returns : goal.returns
returns c =
    subst (All (λ (counts : Counts). AreInRange (entries counts)))
    (c.as_slice-state-items.ensures ∙ ap (λ (b : Begin). b.states) c.start.view_is)
    (all_there (λ (counts : Counts). AreInRange (entries counts))
    c.as_slice-state-items.result.now c.loop-state.state-index c.loop-state.invariant
    c.loop-state-test.false)
