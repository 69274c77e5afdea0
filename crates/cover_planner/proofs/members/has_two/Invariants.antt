use Rattle.cover_planner.proofs.MemberLemmas.{HasOne}
use Rattle.cover_planner.proofs.members.has_two.Given as goal

abbrev pub invariant-loop-b : goal.invariant-loop-b
invariant-loop-b l = HasOne l.mask l.one l.b
