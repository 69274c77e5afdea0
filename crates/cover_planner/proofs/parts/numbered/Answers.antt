use Rattle.std.proofs.Common.{rules, ℕ, ◌<◌, ◌^◌, inl, inr, arith, refl, get_or, set, length, length-set, replicate, get_or-set_same, get_or-set_other}
use Rattle.std.proofs.lemmas.List.{get_or-replicate}
use Rattle.flow_dag.specs.Masks.{Has}
use Rattle.flow_dag.specs.Rows.{RowHas}
use Rattle.flow_dag.specs.Paths.{Reaches, IsOrReaches}
use Rattle.flow_dag.proofs.MaskLemmas.{Has-below}
use Rattle.flow_dag.proofs.PathLemmas.{IsOrReaches-here, IsOrReaches-reversed, IsOrReaches-trans, IsOrReaches-weaken, IsOrReaches-cases, Reaches-last_step}
use Rattle.cover_planner.proofs.NumberLemmas.{Numbers, Numbers-none, Numbers-skip, Numbers-old, Numbers-new, IsNumbered-made}
use Rattle.cover_planner.proofs.parts.numbered.Goals as goal
use Rattle.cover_planner.proofs.parts.numbered.Goals.{then-has_bit+in-Some, then-has_bit+in-None, else-has_bit}

pub loop-a-init : goal.loop-a-init
loop-a-init c = record {
  long = refl;
  numbers = Numbers-none (Has c.args.nodes) (IsOrReaches (RowHas c.args.joined.now)) (λ x. get_or (replicate 64 255) x 0) (λ x lt. get_or-replicate 64 x 255 0 lt);
}

pub loop-a-preserved : goal.loop-a-preserved
loop-a-preserved c =
    let a = c.loop-a.a in
    let N : ℕ → Type 0 = Has c.args.nodes in
    let E : ℕ → ℕ → Type 0 = RowHas c.args.joined.now in
    let f : ℕ → ℕ = λ x. get_or c.loop-a.part x 0 in
    let so_far : Numbers N (IsOrReaches E) f a c.loop-a.next = c.loop-a.invariant.numbers in
    let here : (x : ℕ) → IsOrReaches E x x = λ x. IsOrReaches-here E x x refl in
    let back = IsOrReaches-reversed E c.requires.symmetric in
    let on = IsOrReaches-trans E in
    let within : a < length c.loop-a.part = omega (arith, c.loop-a.invariant.long) in
    elim c.if-has_bit.branch [
      | then-has_bit+in-Some w ↦
          let covered : Has c.args.nodes a = search rules in
          let b = w.in-Some.b in
          let found = w.in-Some.ensures in
          let r : Reaches E a b = (c.closure-classes.ensures a b).0 found.1 in
          let before = Reaches-last_step E a b r in
          let v = get_or c.loop-a.part b 0 in
          rw (w.part-is, w.next-is) record {
            long = omega (arith, c.loop-a.invariant.long, length-set {A = ℕ});
            numbers =
                Numbers-old N (IsOrReaches E) here back on f a c.loop-a.next so_far covered
                (λ x. get_or (set c.loop-a.part a v) x 0) (λ x ne. get_or-set_other c.loop-a.part a x v 0 ne)
                b found.0 (c.requires.nodes before.0 b before.2) (IsOrReaches-weaken E a b r) (get_or-set_same c.loop-a.part a v 0 within);
          }
      | then-has_bit+in-None w ↦
          let covered : Has c.args.nodes a = search rules in
          let none : (b : ℕ) → b < a → RowHas c.closure-classes.result a b → ⊥ = w.in-None.ensures in
          let v = c.loop-a.next in
          rw (w.part-is, w.next-is) record {
            long = omega (arith, c.loop-a.invariant.long, length-set {A = ℕ});
            numbers =
                Numbers-new N (IsOrReaches E) here back on f a c.loop-a.next so_far covered
                (λ x. get_or (set c.loop-a.part a v) x 0) (λ x ne. get_or-set_other c.loop-a.part a x v 0 ne)
                (λ b lt n s. elim (IsOrReaches-cases E a b s) [ inl e ↦ omega arith | inr r ↦ none b lt ((c.closure-classes.ensures a b).1 r) ])
                (get_or-set_same c.loop-a.part a v 0 within);
          }
      | else-has_bit w ↦
          let none : Has c.args.nodes a → ⊥ = search rules in
          rw (w.part-is, w.next-is) record {
            long = c.loop-a.invariant.long;
            numbers = Numbers-skip N (IsOrReaches E) here back on f a c.loop-a.next so_far none;
          }
    ]

pub returns : goal.returns
returns c =
    let fits : c.args.nodes < 2 ^ 64 = omega arith in
    IsNumbered-made (Has c.args.nodes) (IsOrReaches (RowHas c.args.joined.now)) c.loop-a.part c.loop-a.a c.loop-a.next (omega arith)
    (λ x n. Has-below 64 c.args.nodes x fits n) c.loop-a.invariant.numbers
