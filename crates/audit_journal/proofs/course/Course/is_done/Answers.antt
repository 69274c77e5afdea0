use Rattle.std.proofs.Common.{refl, subst, sym}
use Rattle.std.specs.Prelude.{All, Contains}
use Rattle.audit_journal.proofs.course.Course.is_done.Goals as goal

pub returns-then-is_empty : goal.returns-then-is_empty
returns-then-is_empty c =
    let marks = c.args.self.now.ended in (
      λ t. (c.if-is_empty.ensures.0 refl, subst (All (Contains marks)) c.lanes_in.ensures (c.has_all.ensures.0 t)),
      λ both. c.has_all.ensures.1 (subst (All (Contains marks)) (sym c.lanes_in.ensures) both.1),
    )
