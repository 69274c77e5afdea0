use Rattle.std.proofs.Common.{ℕ, ◌⊎◌, inl, inr, arith, refl, get_or, bit_or, length-set}
use Rattle.flow_dag.specs.Rows.{RowHas}
use Rattle.flow_dag.proofs.MaskLemmas.{Has-or_with}
use Rattle.flow_dag.proofs.RowLemmas.{RowHas-set_next, RowHas-none_yet, RowHas-all, RowHas-within}
use Rattle.cover_planner.proofs.edges.either_way.Goals as goal

pub loop-a-init : goal.loop-a-init
loop-a-init c = record { long = refl; rows = RowHas-none_yet (λ x b. RowHas c.args.children.now x b ⊎ RowHas c.args.parents.now x b) 64 }

pub loop-a-preserved : goal.loop-a-preserved
loop-a-preserved c =
    let a = c.loop-a.a in
    let child = get_or c.args.children.now a 0 in
    let parent = get_or c.args.parents.now a 0 in
    record {
      long = omega (arith, c.loop-a.invariant.long, length-set {A = ℕ});
      rows =
          RowHas-set_next (λ x b. RowHas c.args.children.now x b ⊎ RowHas c.args.parents.now x b) c.loop-a.joined a c.loop-a.invariant.rows
          (bit_or child parent) (omega (arith, c.loop-a.invariant.long))
          (λ b. Has-or_with (RowHas c.args.parents.now a b) child parent b (λ h. h, λ h. h));
    }

pub returns : goal.returns
returns c =
    RowHas-all (λ x b. RowHas c.args.children.now x b ⊎ RowHas c.args.parents.now x b) c.loop-a.joined c.loop-a.a c.loop-a.invariant.rows 64 (omega arith)
    (λ x b h. elim h [
      | inl u ↦ omega (arith, RowHas-within c.args.children.now x b u, c.told-children)
      | inr v ↦ omega (arith, RowHas-within c.args.parents.now x b v, c.told-parents)
    ])
