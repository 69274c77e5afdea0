use Rattle.std.proofs.Common.{ℕ, ◌<◌, ◌↔◌, get_or, bit_and}
use Rattle.flow_dag.specs.Masks.{Has}
use Rattle.cover_planner.proofs.MemberLemmas.{HasTwo}
use Rattle.cover_planner.proofs.members.forked.Given as goal

abbrev pub invariant-loop-a : goal.invariant-loop-a
invariant-loop-a l = (x : ℕ) → Has l.found x ↔ ((x < l.a) × HasTwo (bit_and (get_or l.children x 0) l.set))
