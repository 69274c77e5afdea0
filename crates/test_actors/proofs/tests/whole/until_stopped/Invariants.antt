use Rattle.std.proofs.Common.{◌≡◌, false, map}
use Rattle.flow_model.specs.Begin.{at_first}
use Rattle.flow_model.specs.Setup.{setup_view}
use Rattle.coordinator.specs.Feeding.{IsFeeder}
use Rattle.lane_core.specs.Lane.{end_of}
use Rattle.test_actors.proofs.tests.whole.until_stopped.Given as goal

-- the feeder has its law, and its endpoints
abbrev pub invariant-loop-turn : goal.invariant-loop-turn
invariant-loop-turn g l = record {
  law : IsFeeder false (setup_view l.setup) (at_first (setup_view l.setup)) l.rows l.feeder;
  endpoints : map end_of l.feeder.outs ≡ map end_of l.fn.feeder.outs;
}
