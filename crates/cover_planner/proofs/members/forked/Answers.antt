use Rattle.std.proofs.Common.{rules, ◌≡◌, ◌≢◌, ℕ, arith, bit_and, get_or, length}
use Rattle.flow_dag.specs.Masks.{Has}
use Rattle.flow_dag.proofs.RowLemmas.{RowHas-within}
use Rattle.cover_planner.proofs.MemberLemmas.{HasTwo, found_next, found_skip, two_of_both}
use Rattle.cover_planner.proofs.members.forked.Goals as goal
use Rattle.cover_planner.proofs.members.forked.Goals.{then-has_two, else-has_two}

pub loop-a-preserved : goal.loop-a-preserved
loop-a-preserved c =
    let a = c.loop-a.a in
    let P : ℕ → Type 0 = λ x. HasTwo (bit_and (get_or c.args.children.now x 0) c.args.set) in
    elim c.if-has_two.branch [
      | then-has_two w ↦
          let two : P a = search rules in
          rw w.found-is (found_next P c.loop-a.found a c.loop-a.invariant w.with_bit-found.result w.with_bit-found.ensures.set w.with_bit-found.ensures.others two)
      | else-has_two w ↦
          let none : (b d : ℕ) → Has (bit_and (get_or c.args.children.now a 0) c.args.set) b → Has (bit_and (get_or c.args.children.now a 0) c.args.set) d → b ≢ d → ⊥ = search rules in
          rw w.found-is (found_skip P c.loop-a.found a c.loop-a.invariant (λ p. none p.0 p.1 p.3 p.4 p.2))
    ]

pub returns : goal.returns
returns c a =
    let row = get_or c.args.children.now a 0 in
    let both = two_of_both row c.args.set in
    let long : length c.args.children.now ≡ 64 = search rules in (
      λ h. both.0 ((c.loop-a.invariant a).0 h).1,
      λ p. let lt = RowHas-within c.args.children.now a p.0 p.3.0 in (c.loop-a.invariant a).1 (omega (arith, lt, long), both.1 p),
    )
