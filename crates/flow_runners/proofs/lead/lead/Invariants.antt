use Rattle.std.proofs.Common.{◌≡◌}
use Rattle.crossbeam_queue.specs.SegTies.{IsSegPassOf}
use Rattle.flow_runners.specs.Crew.{HasFed}
use Rattle.flow_runner.specs.Rule.{AreListed}
use Rattle.flow_runners.proofs.lead.lead.Given as goal

abbrev pub invariant-loop : goal.invariant-loop
invariant-loop g l = record {
  queue : IsSegPassOf l.queue l.own.pass;
  parts : l.own.pass.me.view.client.parts ≡ l.fn.own.pass.me.view.client.parts;
  listed : AreListed g.C.Charter.endpoints l.own.runners.items l.own.pass.me.view.client.list;
  fed : HasFed g.F.Feeding.LIVE l.flow g.C.Charter.begin g.F.Feeding.kept (g.F.Feeding.feeder l.fn.feeder) (g.F.Feeding.rest l.fn.feeder) (g.F.Feeding.feeder l.feeder) (g.F.Feeding.rest l.feeder);
}
