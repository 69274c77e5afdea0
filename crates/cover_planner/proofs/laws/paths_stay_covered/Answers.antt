use Rattle.flow_dag.specs.Masks.{Has}
use Rattle.flow_dag.specs.Edges.{HasEdge}
use Rattle.cover_planner.proofs.LawLemmas.{IsCoveredEdge-on, IsCoveredNode-between, IsHead-not_reached}
use Rattle.cover_planner.proofs.laws.paths_stay_covered.Goals as goal

pub returns-clause-covered : goal.returns-clause-covered
returns-clause-covered c edges members a b path = IsCoveredEdge-on (HasEdge edges) (Has members) a b path

pub returns-clause-gone : goal.returns-clause-gone
returns-clause-gone c edges members a x b ca r out w cb = out (IsCoveredNode-between (HasEdge edges) (Has members) a x b ca r w cb)

pub returns-clause-heads : goal.returns-clause-heads
returns-clause-heads c edges members a b = IsHead-not_reached (HasEdge edges) (Has members) a b
