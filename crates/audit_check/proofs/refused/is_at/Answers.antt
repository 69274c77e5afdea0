use Rattle.audit_check.proofs.RefusedLemmas.{at_place, of_place}
use Rattle.audit_check.proofs.refused.is_at.Goals as goal

pub returns : goal.returns
returns c = (
  λ h. at_place c.args.refused.now c.args.place _ c.args.found c.requires (c.are_same.ensures.0 h),
  λ h. c.are_same.ensures.1 (of_place c.args.refused.now c.args.place _ c.args.found h),
)
