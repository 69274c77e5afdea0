use Rattle.std.proofs.Common.{◌≡◌, map}
use Rattle.flow_worker.specs.Parts.{WorkedIs}
use Rattle.flow_engine.proofs.flown.left_by.Given as goal

-- the journals and the counts of the workers so far
abbrev pub invariant-loop-worked : goal.invariant-loop-worked
invariant-loop-worked g l = record {
  journals : l.left.journals ≡ map (λ (w : WorkedIs). w.journal) l.yielded;
  states : l.left.states ≡ map (λ (w : WorkedIs). w.state) l.yielded;
}
