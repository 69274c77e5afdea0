use Rattle.std.proofs.Common.{◌≢◌}
use Rattle.coordinator.specs.declared.feeding.FeedTurn.TheVariants.{Done}
use Rattle.flow_runners.specs.Crew.{HasFed}
use Rattle.flow_runners.proofs.lead.feed.Given as goal

abbrev pub invariant-loop : goal.invariant-loop
invariant-loop g l = record {
  fed : HasFed g.F.Feeding.LIVE l.flow g.C.Charter.begin g.F.Feeding.kept (g.F.Feeding.feeder l.fn.feeder) (g.F.Feeding.rest l.fn.feeder) (g.F.Feeding.feeder l.feeder) (g.F.Feeding.rest l.feeder);
  going : l.fed ≢ Done;
}
