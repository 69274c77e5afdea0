use Rattle.std.proofs.Common.{[], ◌∷◌}
use Rattle.tuple_trace.specs.declared.tuple.Item.TheVariants.{Last}
use Rattle.flow_worker.specs.Pairs.{FirstPairs}
use Rattle.flow_worker.specs.Endpoints.{Appended}
use Rattle.flow_worker.proofs.acts.push_ends.Given as goal

abbrev pub invariant-loop-out : goal.invariant-loop-out
invariant-loop-out g l = FirstPairs (Appended (λ o. Last ∷ [])) l.out-index l.initial.out-items l.out-items
