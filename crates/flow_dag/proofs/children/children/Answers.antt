use Rattle.std.proofs.Common.{rules, ℕ, arith, refl, take, get_or, length-set}
use Rattle.std.proofs.lemmas.Option.{slice_get-get_or}
use Rattle.std.proofs.lemmas.List.{take_all, take_more}
use Rattle.flow_dag.specs.declared.edge.Edge.{Edge}
use Rattle.flow_dag.specs.Rows.{RowHas}
use Rattle.flow_dag.specs.Edges.{HasEdge, IsInside}
use Rattle.flow_dag.proofs.EdgeLemmas.{RowHas-set, HaveDistinctEnds-push, HasEdge-none}
use Rattle.flow_dag.proofs.RowLemmas.{RowHas-zeros}
use Rattle.flow_dag.proofs.children.children.Goals as goal

pub loop-i-init : goal.loop-i-init
loop-i-init c = record {
  long = refl;
  same = λ a b. (λ h. absurd (RowHas-zeros 64 a b h), λ h. absurd (HasEdge-none a b h));
  distinct = λ i j d lt lj. absurd (omega arith);
}

pub returns-then-has_bit-clause-fault : goal.returns-then-has_bit-clause-fault
returns-then-has_bit-clause-fault c =
    let d : Edge = record { from = 0; port = 0; to = 0 } in
    let e : Edge = get_or c.args.edges.now c.loop-i.i d in
    let h : RowHas c.loop-i.child e.from e.to = search rules in
    (c.requires.inside, (e, slice_get-get_or c.args.edges.now c.loop-i.i d c.loop-i-test.true, (c.loop-i.invariant.same e.from e.to).0 h), c.loop-i.invariant.distinct)

pub loop-i-preserved : goal.loop-i-preserved
loop-i-preserved c =
    let d : Edge = record { from = 0; port = 0; to = 0 } in
    let e : Edge = get_or c.args.edges.now c.loop-i.i d in
    let i = c.loop-i.invariant in
    let inside : IsInside c.args.n e = c.requires.inside c.loop-i.i d c.loop-i-test.true in
    let new : HasEdge (take c.loop-i.i c.args.edges.now) e.from e.to → ⊥ = λ h. let h' = (i.same e.from e.to).1 h in search rules in
    rw (take_more c.args.edges.now c.loop-i.i d c.loop-i-test.true) record {
      long = omega (arith, i.long, length-set {A = ℕ});
      same = RowHas-set c.loop-i.child (take c.loop-i.i c.args.edges.now) e c.with_bit.result i.same (omega (arith, i.long, inside)) c.with_bit.ensures.set c.with_bit.ensures.others;
      distinct = HaveDistinctEnds-push (take c.loop-i.i c.args.edges.now) e i.distinct new;
    }

pub returns-clause-child : goal.returns-clause-child
returns-clause-child c = let e = take_all c.loop-i.i c.args.edges.now c.loop-i-test.false in rw e at c.loop-i.invariant.same

pub returns-clause-distinct : goal.returns-clause-distinct
returns-clause-distinct c = let e = take_all c.loop-i.i c.args.edges.now c.loop-i-test.false in rw e at c.loop-i.invariant.distinct
