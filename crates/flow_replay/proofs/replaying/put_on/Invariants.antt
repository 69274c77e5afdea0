use Rattle.std.proofs.Common.{◌≡◌, ◌++◌, drop, length, take}
use Rattle.flow_model.specs.SetupWorker.{setup_here}
use Rattle.flow_replay.specs.inner.Replays.{reaches, with_item}
use Rattle.flow_replay.proofs.replaying.put_on.Given as goal

abbrev pub invariant-loop-place : goal.invariant-loop-place
invariant-loop-place l = record {
  long : length l.lists ≡ length l.number-items;
  gained :
      take l.place l.lists
      ++ with_item (reaches (setup_here l.who) l.sending.onto) l.sending.item
      (drop l.place l.number-items) (drop l.place l.lists)
      ≡ with_item (reaches (setup_here l.who) l.sending.onto) l.sending.item l.number-items
      l.fn.lists;
}
