use Rattle.std.proofs.Common.{rules, ℕ, ◌↔◌, arith, refl, get_or, bit_and, length-set}
use Rattle.flow_dag.specs.Masks.{Has}
use Rattle.flow_dag.specs.Rows.{RowHas}
use Rattle.flow_dag.proofs.MaskLemmas.{Has-and_with}
use Rattle.flow_dag.proofs.RowLemmas.{RowHas-set_next, RowHas-skip_next, RowHas-none_yet}
use Rattle.cover_planner.proofs.edges.between.Goals as goal
use Rattle.cover_planner.proofs.edges.between.Goals.{then-has_bit, else-has_bit}

pub loop-a-init : goal.loop-a-init
loop-a-init c = record { long = refl; rows = RowHas-none_yet (λ x b. RowHas c.args.rows.now x b × Has c.args.from x × Has c.args.to b) 64 }

pub loop-a-preserved : goal.loop-a-preserved
loop-a-preserved c =
    let P : ℕ → ℕ → Type 0 = λ x b. RowHas c.args.rows.now x b × Has c.args.from x × Has c.args.to b in
    let a = c.loop-a.a in
    let row = get_or c.args.rows.now a 0 in
    elim c.if-has_bit.branch [
      | then-has_bit w ↦
          let here : Has c.args.from a = search rules in
          let is : (b : ℕ) → Has (bit_and row c.args.to) b ↔ P a b =
          λ b. let both = Has-and_with (Has c.args.to b) row c.args.to b (λ h. h, λ h. h) in
          (λ h. let g = both.0 h in (g.0, here, g.1), λ p. both.1 (p.0, p.2))
          in
          rw w.kept-is record {
            long = omega (arith, c.loop-a.invariant.long, length-set {A = ℕ});
            rows = RowHas-set_next P c.loop-a.kept a c.loop-a.invariant.rows (bit_and row c.args.to) (omega (arith, c.loop-a.invariant.long)) is;
          }
      | else-has_bit w ↦
          let none : Has c.args.from a → ⊥ = search rules in
          rw w.kept-is record {
            long = c.loop-a.invariant.long;
            rows = RowHas-skip_next P c.loop-a.kept a c.loop-a.invariant.rows (λ b p. none p.1);
          }
    ]
