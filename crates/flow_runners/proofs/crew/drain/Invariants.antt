use Rattle.std.proofs.Common.{◌≡◌}
use Rattle.crossbeam_queue.specs.SegTies.{IsSegPassOf}
use Rattle.flow_runner.specs.Rule.{AreListed}
use Rattle.flow_runners.proofs.crew.drain.Given as goal

abbrev pub invariant-loop : goal.invariant-loop
invariant-loop g l = record {
  queue : IsSegPassOf l.queue l.own.pass;
  parts : l.own.pass.me.view.client.parts ≡ 16;
  listed : AreListed g.C.Charter.endpoints l.own.runners.items l.own.pass.me.view.client.list;
}
