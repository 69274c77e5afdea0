use Rattle.std.proofs.Common.{◌≡◌, ◌∙◌, inl, inr, arith, refl}
use Rattle.std.proofs.lemmas.Bool.{cases_lt}
use Rattle.flow_dag.specs.Rows.{RowHas}
use Rattle.flow_dag.proofs.PathLemmas.{Reaches-first_below}
use Rattle.flow_dag.proofs.ViaLemmas.{one, Via-zero, Via-from_Reaches, Reaches-from_Via}
use Rattle.flow_dag.proofs.RowLemmas.{RowHas-via_next}
use Rattle.flow_dag.proofs.rows.closure.Goals as goal

pub loop-k-init : goal.loop-k-init
loop-k-init c = record {
  walks = λ a b lt. (λ h. one h, λ v. Via-zero (RowHas c.args.child.now) 0 refl v);
  rest = λ a le. refl;
}

pub loop-k-preserved : goal.loop-k-preserved
loop-k-preserved c = record {
  walks = RowHas-via_next (RowHas c.args.child.now) c.args.n c.loop-k.k c.loop-k.below c.pass_through.new.rows (omega arith) c.loop-k.invariant.walks c.pass_through.ensures.gains;
  rest = λ a le. c.pass_through.ensures.others a le ∙ c.loop-k.invariant.rest a le;
}

pub returns : goal.returns
returns c a b =
    let E = RowHas c.args.child.now in
    let end : c.loop-k.k ≡ c.args.n = omega arith in
    let walks = c.loop-k.invariant.walks in (
      λ h. elim (cases_lt a c.args.n) [
        | inl lt ↦ Reaches-from_Via E c.loop-k.k ((walks a b lt).0 h)
        | inr ge ↦
            let h' = rw (c.loop-k.invariant.rest a ge) at h in
            absurd (omega (arith, c.requires.inside a b h'))
      ],
      λ r.
          let v = Via-from_Reaches E c.args.n (λ x y e. (c.requires.inside x y e).1) a b r in
          (walks a b (Reaches-first_below E c.args.n (λ x y e. (c.requires.inside x y e).0) a b r)).1 (rw end v),
    )
