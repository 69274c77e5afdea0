use Rattle.std.proofs.Common.{ℕ}
use Rattle.flow_dag.specs.Masks.{Has}
use Rattle.flow_dag.specs.Paths.{Reaches}
use Rattle.flow_dag.specs.Edges.{HasEdge}
use Rattle.flow_dag.proofs.MaskLemmas.{Has-or_with}
use Rattle.cover_planner.proofs.edges.upstream.Goals as goal

pub returns : goal.returns
returns c a =
    Has-or_with ((m : ℕ) × Has c.args.members m × Reaches (HasEdge c.args.dag.now.edges) a m) c.args.members c.above_all.result a (c.above_all.ensures a)
