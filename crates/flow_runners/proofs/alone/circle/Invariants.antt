use Rattle.std.proofs.Common.{◌≡◌, IsTrue, map}
use Rattle.coordinator.specs.declared.feeding.FeedTurn.TheVariants.{Done}
use Rattle.flow_runner.specs.Rule.{fixed_of}
use Rattle.flow_runners.specs.Crew.{HasFed}
use Rattle.flow_runners.proofs.alone.circle.Given as goal

abbrev pub invariant-loop-i : goal.invariant-loop-i
invariant-loop-i g l = record {
  fixed : map fixed_of l.runners.items ≡ map fixed_of l.fn.runners.items;
  fed : HasFed g.F.Feeding.LIVE l.flow g.C.Charter.begin g.F.Feeding.kept (g.F.Feeding.feeder l.fn.feeder) (g.F.Feeding.rest l.fn.feeder) (g.F.Feeding.feeder l.feeder) (g.F.Feeding.rest l.feeder);
  stopped : l.last ≡ Done → IsTrue (g.F.Feeding.feeder l.feeder).stopped;
}
