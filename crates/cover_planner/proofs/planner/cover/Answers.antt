use Rattle.std.proofs.Common.{ℕ}
use Rattle.flow_dag.specs.Masks.{Has}
use Rattle.flow_dag.specs.Edges.{HasEdge}
use Rattle.cover_planner.proofs.PlanLemmas.{RowHas-joined_back, Has-joined, Has-nodes, Has-heads, IsNumbered-parts, MarksEdges-covered}
use Rattle.cover_planner.proofs.planner.cover.Goals as goal

pub numbered-requires-clause-symmetric : goal.numbered-requires-clause-symmetric
numbered-requires-clause-symmetric c =
    RowHas-joined_back (HasEdge c.args.dag.now.edges) (Has c.args.members) c.covered_children-children.result c.transposed-parents.result
    c.either_way-joined.result c.covered_nodes-nodes.result c.covered_children-children.ensures c.transposed-parents.ensures
    c.either_way-joined.ensures c.covered_nodes-nodes.ensures

pub numbered-requires-clause-nodes : goal.numbered-requires-clause-nodes
numbered-requires-clause-nodes c =
    Has-joined (HasEdge c.args.dag.now.edges) (Has c.args.members) c.covered_children-children.result c.transposed-parents.result
    c.either_way-joined.result c.covered_nodes-nodes.result c.covered_children-children.ensures c.transposed-parents.ensures
    c.either_way-joined.ensures c.covered_nodes-nodes.ensures

pub returns-clause-cover : goal.returns-clause-cover
returns-clause-cover c =
    let E : ℕ → ℕ → Type 0 = HasEdge c.args.dag.now.edges in
    let M : ℕ → Type 0 = Has c.args.members in
    let covered = c.covered_children-children.result in
    let parents = c.transposed-parents.result in
    let joined = c.either_way-joined.result in
    let nodes = c.covered_nodes-nodes.result in
    let is = c.covered_children-children.ensures in
    let turned = c.transposed-parents.ensures in
    let ways = c.either_way-joined.ensures in
    let ends = c.covered_nodes-nodes.ensures in
    record {
      covered = MarksEdges-covered E M covered parents joined nodes is turned ways ends c.args.dag.now.edges c.marked.result c.marked.ensures;
      nodes = Has-nodes E M covered parents joined nodes is turned ways ends;
      heads = Has-heads E M covered parents joined nodes is turned ways ends c.not_entered.result c.not_entered.ensures;
      parts = IsNumbered-parts E M covered parents joined nodes is turned ways ends c.numbered.result c.numbered.ensures;
    }
