use Rattle.std.proofs.Common.{rules, ℕ, arith, get_or, length-set}
use Rattle.flow_dag.specs.Rows.{RowHas}
use Rattle.flow_dag.proofs.MaskLemmas.{Has-below}
use Rattle.flow_dag.proofs.RowLemmas.{RowHas-none_yet, RowHas-set_next, RowHas-all}
use Rattle.flow_dag.proofs.rows.transposed.Goals as goal

pub loop-a-init : goal.loop-a-init
loop-a-init c = record { long = search rules; turned = RowHas-none_yet (λ x b. RowHas c.args.rows.now b x) 64 }

pub loop-a-preserved : goal.loop-a-preserved
loop-a-preserved c = record {
  long = omega (arith, c.loop-a.invariant.long, length-set {A = ℕ});
  turned = RowHas-set_next (λ x b. RowHas c.args.rows.now b x) c.loop-a.transposed c.loop-a.a c.loop-a.invariant.turned c.column.result (omega (arith, c.loop-a.invariant.long)) c.column.ensures;
}

pub returns : goal.returns
returns c =
    RowHas-all (λ x b. RowHas c.args.rows.now b x) c.loop-a.transposed c.loop-a.a c.loop-a.invariant.turned 64 (omega arith)
    (λ x b h. Has-below 64 (get_or c.args.rows.now b 0) x (c.fits-rows b) h)
