use Rattle.std.proofs.Common.{ℕ}
use Rattle.flow_dag.specs.Masks.{Has}
use Rattle.flow_dag.specs.Paths.{Reaches}
use Rattle.flow_dag.specs.Rows.{RowHas}
use Rattle.flow_dag.specs.Edges.{HasEdge}
use Rattle.cover_planner.specs.Members.{LeadsTwice}
use Rattle.cover_planner.proofs.MemberLemmas.{members_are, twice_are}
use Rattle.cover_planner.proofs.members.members.Goals as goal

pub returns : goal.returns
returns c a =
    let E : ℕ → ℕ → Type 0 = HasEdge c.args.dag.now.edges in
    let twice = twice_are E (RowHas c.graph.result.child) c.args.asked c.above_all-above.result a c.graph.ensures.edges c.above_all-above.ensures in
    members_are ((b : ℕ) × Has c.args.asked b × Reaches E a b) (LeadsTwice E (Has c.args.asked) a) c.args.asked c.args.splits c.args.copies
    c.above_all-above.result c.forked.result a (c.above_all-above.ensures a)
    (λ h. twice.0 ((c.forked.ensures a).0 h), λ h. (c.forked.ensures a).1 (twice.1 h))
