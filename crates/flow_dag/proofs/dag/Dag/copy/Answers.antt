use Rattle.std.proofs.Common.{refl, ◌∙◌}
use Rattle.flow_dag.proofs.ViewLemmas.{DagView-same}
use Rattle.flow_dag.proofs.dag.Dag.copy.Goals as goal

pub returns : goal.returns
returns c =
    rw (← c.self.view_is)
    (DagView-same _ _ refl (c.in_ok-edges.ensures.items ∙ c.deref.ensures.value) (c.in_ok-order.ensures.items ∙ c.deref-2.ensures.value))
