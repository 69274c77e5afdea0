use Rattle.std.proofs.Common.{◌≡◌, ◌++◌, map}
use Rattle.std.specs.List.{range_with_len}
use Rattle.flow_model.proofs.tables.push_workers.Given as goal

abbrev pub invariant-loop-place : goal.invariant-loop-place
invariant-loop-place l = l.workers ≡ l.fn.workers ++ map (λ place. record { node = l.node; place = place }) (range_with_len 0 l.place)
