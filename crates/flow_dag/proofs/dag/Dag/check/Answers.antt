use Rattle.flow_dag.specs.Edges.{HasEdge}
use Rattle.flow_dag.proofs.DagLemmas.{RowHas-trans, IsAcyclic-from_rows, IsTopologicalOrder-edges, IsFaultOf-NoMemory}
use Rattle.flow_dag.proofs.dag.Dag.check.Goals as goal

pub returns-in-Some-clause-fault : goal.returns-in-Some-clause-fault
returns-in-Some-clause-fault c =
    let paths = c.in_ok-reach.ensures.reach.descendants in
    let found = c.in-Some.ensures in (
      c.in_ok-check_ends.ensures.inside,
      c.in_ok-reach.ensures.distinct,
      (paths c.in-Some.node c.in-Some.node).0 found.1,
      λ b lt r. found.2 b lt ((paths b b).1 r),
    )

pub topological_order-requires-clause-transitive : goal.topological_order-requires-clause-transitive
topological_order-requires-clause-transitive c =
    RowHas-trans (HasEdge c.args.edges.now) c.in_ok-reach.reach.below c.in_ok-reach.ensures.reach.descendants

pub returns-in_err-order-clause-fault : goal.returns-in_err-order-clause-fault
returns-in_err-order-clause-fault c =
    let inside = c.in_ok-check_ends.ensures.inside in
    IsFaultOf-NoMemory c.args.n c.args.edges.now c.from_residual-in_err-order.result inside c.in_ok-reach.ensures.distinct
    (IsAcyclic-from_rows c.args.n c.args.edges.now c.in_ok-reach.reach.below inside c.in_ok-reach.ensures.reach.descendants c.in_default.ensures)
    c.from_residual-in_err-order.ensures.1

pub returns-in_err-edges-clause-fault : goal.returns-in_err-edges-clause-fault
returns-in_err-edges-clause-fault c =
    let inside = c.in_ok-check_ends.ensures.inside in
    IsFaultOf-NoMemory c.args.n c.args.edges.now c.from_residual-in_err-edges.result inside c.in_ok-reach.ensures.distinct
    (IsAcyclic-from_rows c.args.n c.args.edges.now c.in_ok-reach.reach.below inside c.in_ok-reach.ensures.reach.descendants c.in_default.ensures)
    c.from_residual-in_err-edges.ensures.1

pub invariant_of-result : goal.invariant_of-result
invariant_of-result c =
    let inside = c.in_ok-check_ends.ensures.inside in
    let paths = c.in_ok-reach.ensures.reach.descendants in
    rw c.in_ok-edges.ensures.items (
      record {
        some = c.requires.some;
        size = c.requires.nodes;
        count = c.requires.count;
        inside = inside;
        distinct = c.in_ok-reach.ensures.distinct;
        acyclic = IsAcyclic-from_rows c.args.n c.args.edges.now c.in_ok-reach.reach.below inside paths c.in_default.ensures;
        ordered = IsTopologicalOrder-edges c.args.n c.args.edges.now c.in_ok-order.order.items c.in_ok-reach.reach.below paths c.in_ok-order.ensures;
      },
      tt,
    )

pub invariant_of-result-2 : goal.invariant_of-result-2
invariant_of-result-2 c = rw c.in_ok-edges.ensures.items c.in_ok-reach.ensures.reach
