use Rattle.std.proofs.Common.{[], ◌∷◌, cond}
use Rattle.flow_dag.specs.Masks.{has}
use Rattle.tuple_trace.specs.declared.tuple.Item.TheVariants.{Mark}
use Rattle.flow_worker.specs.Pairs.{FirstPairs}
use Rattle.flow_worker.specs.Endpoints.{Appended}
use Rattle.flow_worker.proofs.acts.push_markers.Given as goal

abbrev pub invariant-loop-out : goal.invariant-loop-out
invariant-loop-out g l = FirstPairs (Appended (λ out. cond (has l.edges out.edge) (Mark l.due.request l.due.cover ∷ []) [])) l.out-index l.initial.out-items l.out-items
