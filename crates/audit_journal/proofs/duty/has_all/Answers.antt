use Rattle.std.proofs.Common.{refl}
use Rattle.audit_journal.proofs.LaneLemmas.{all_more, all_there}
use Rattle.audit_journal.proofs.duty.has_all.Goals as goal

pub loop-lane-preserved : goal.loop-lane-preserved
loop-lane-preserved c = all_more c.args.marks.now c.args.lanes.now c.loop-lane.lane-index _ c.loop-lane.invariant c.loop-lane-test.true (c.if-not-has.ensures.0 refl)

pub returns : goal.returns
returns c = (λ t. all_there c.args.marks.now c.args.lanes.now c.loop-lane.lane-index c.loop-lane.invariant c.loop-lane-test.false, λ all. refl)
