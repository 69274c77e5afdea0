use Rattle.std.proofs.Common.{refl}
use Rattle.audit_journal.proofs.course.Course.admits_turn.Goals as goal

pub returns : goal.returns
returns c = (λ t. (c.if-not-is_next.ensures.0 refl, c.has_markers.ensures.0 t, c.if-not-is_empty.ensures.0 refl), λ all. c.has_markers.ensures.1 all.1)
