use Rattle.std.proofs.Common.{◌≡◌, ◌<◌, ◌+◌, vec_len}
use Rattle.std.specs.List.{All}
use Rattle.crossbeam_queue.specs.SegTies.{IsSegPassOf}
use Rattle.flow_runner.specs.Rule.{AreListed}
use Rattle.flow_runners.proofs.threads.join_all.Given as goal

abbrev pub invariant-loop-handle : goal.invariant-loop-handle
invariant-loop-handle g l = record {
  queue : IsSegPassOf l.queue l.own.pass;
  some : 0 < l.own.pass.me.view.client.parts;
  parts : l.own.pass.me.view.client.parts + vec_len l.handles ≡ 16;
  listed : AreListed g.C.Charter.endpoints l.own.runners.items l.own.pass.me.view.client.list;
  handles : All (λ h. h.promise.queue.value ≡ l.queue) l.handles.items;
}

abbrev pub decreases-loop-handle : goal.decreases-loop-handle
decreases-loop-handle g l = vec_len l.handles
