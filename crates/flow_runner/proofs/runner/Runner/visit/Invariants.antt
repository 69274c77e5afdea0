use Rattle.std.proofs.Common.{◌≡◌, ◌<◌, false}
use Rattle.flow_runner.proofs.runner.Runner.visit.Given as goal

abbrev pub invariant-loop : goal.invariant-loop
invariant-loop g l = record {
  number : l.self.number ≡ l.fn.self.number;
  endpoints : l.self.endpoints ≡ l.fn.self.endpoints;
  going : 0 < l.counter → l.self.is_done ≡ false;
}
