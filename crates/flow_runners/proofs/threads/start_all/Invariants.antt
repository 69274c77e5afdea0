use Rattle.std.proofs.Common.{◌≡◌, ◌≤◌, ◌+◌, vec_len}
use Rattle.std.specs.List.{All}
use Rattle.crossbeam_queue.specs.SegTies.{IsSegPassOf}
use Rattle.flow_runner.specs.Rule.{AreListed}
use Rattle.flow_runners.proofs.threads.start_all.Given as goal

abbrev pub invariant-loop-word : goal.invariant-loop-word
invariant-loop-word g l = record {
  queue : IsSegPassOf l.queue l.own.pass;
  parts : l.own.pass.me.view.client.parts + vec_len l.handles ≡ 16;
  few : vec_len l.handles ≤ l.word-index;
  listed : AreListed g.C.Charter.endpoints l.own.runners.items l.own.pass.me.view.client.list;
  handles : All (λ h. h.promise.queue.value ≡ l.queue) l.handles.items;
}
