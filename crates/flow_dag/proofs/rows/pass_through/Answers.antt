use Rattle.std.proofs.Common.{rules, ◌≢◌, ℕ, ◌<◌, arith, ap, length, length-set, get_or, get_or-set_other}
use Rattle.flow_dag.specs.Masks.{Has}
use Rattle.flow_dag.proofs.RowLemmas.{GainsRow-set, GainsRow-same}
use Rattle.flow_dag.proofs.rows.pass_through.Goals as goal
use Rattle.flow_dag.proofs.rows.pass_through.Goals.{then-has_bit, else-has_bit}

pub loop-a-preserved : goal.loop-a-preserved
loop-a-preserved c =
    let i = c.loop-a.invariant in
    elim c.if-has_bit.branch [
      | then-has_bit w ↦
          let h : Has (get_or c.loop-a.rows c.loop-a.a 0) c.args.k = search rules in
          let within : c.loop-a.a < length c.loop-a.rows = omega (arith, ap length w.rows-is, length-set {A = ℕ}) in
          rw w.rows-is record {
            done = GainsRow-set c.args.rows.now c.loop-a.rows c.args.k c.loop-a.a i.done i.rest within h;
            rest = λ x le. let ne : x ≢ c.loop-a.a = omega arith in rw get_or-set_other (i.rest x (omega arith));
          }
      | else-has_bit w ↦
          let n : Has (get_or c.loop-a.rows c.loop-a.a 0) c.args.k → ⊥ = search rules in
          let within : c.loop-a.a < length c.loop-a.rows = omega (arith, ap length w.rows-is) in
          rw w.rows-is record {
            done = GainsRow-same c.args.rows.now c.loop-a.rows c.args.k c.loop-a.a i.done i.rest within n;
            rest = λ x le. i.rest x (omega arith);
          }
    ]
