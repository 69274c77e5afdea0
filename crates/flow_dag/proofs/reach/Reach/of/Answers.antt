use Rattle.flow_dag.proofs.DagLemmas.{RowHas-paths}
use Rattle.flow_dag.proofs.reach.Reach.of.Goals as goal

pub returns-clause-reach : goal.returns-clause-reach
returns-clause-reach c =
    let below = RowHas-paths c.in_ok-child.child c.closure-below.result c.args.edges.now c.in_ok-child.ensures.child c.closure-below.ensures in
    record {
      children = c.in_ok-child.ensures.child;
      ancestors = λ a b. (λ h. (below a b).0 ((c.transposed.ensures b a).0 h), λ r. (c.transposed.ensures b a).1 ((below a b).1 r));
      descendants = below;
    }
