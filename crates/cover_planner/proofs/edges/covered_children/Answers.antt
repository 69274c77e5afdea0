use Rattle.flow_dag.specs.Edges.{HasEdge}
use Rattle.flow_dag.specs.Masks.{Has}
use Rattle.cover_planner.proofs.CoverLemmas.{IsCoveredEdge-made, IsCoveredEdge-parts}
use Rattle.cover_planner.proofs.edges.covered_children.Goals as goal

pub returns : goal.returns
returns c a b =
    let E = HasEdge c.args.dag.now.edges in
    let M = Has c.args.members in (
      λ h. let (e, f, t) = (c.between.ensures a b).0 h in
          IsCoveredEdge-made E M a b ((c.graph.ensures.edges a b).0 e) ((c.downstream-from.ensures a).0 f) ((c.upstream-to.ensures b).0 t),
      λ h. let (e, f, t) = IsCoveredEdge-parts E M a b h in
          (c.between.ensures a b).1 ((c.graph.ensures.edges a b).1 e, (c.downstream-from.ensures a).1 f, (c.upstream-to.ensures b).1 t),
    )
