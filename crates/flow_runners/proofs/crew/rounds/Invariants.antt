use Rattle.std.proofs.Common.{◌≡◌, map}
use Rattle.flow_runner.specs.Rule.{fixed_of}
use Rattle.flow_runners.proofs.crew.rounds.Given as goal

abbrev pub invariant-loop : goal.invariant-loop
invariant-loop g l = map fixed_of l.runners.items ≡ map fixed_of l.fn.runners.items
