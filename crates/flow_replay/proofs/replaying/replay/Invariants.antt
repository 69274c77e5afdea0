use Rattle.std.proofs.Common.{◌≤◌, take}
use Rattle.flow_model.specs.SetupWorker.{setup_here, who_here}
use Rattle.flow_replay.specs.Sent.{begun_view}
use Rattle.flow_replay.specs.inner.Replays.{IsReplayed}
use Rattle.flow_replay.proofs.replaying.replay.Given as goal

abbrev pub invariant-loop-entry : goal.invariant-loop-entry
invariant-loop-entry l = record {
  replayed :
      IsReplayed (setup_here l.who) (who_here l.who)
      (begun_view (setup_here l.who) l.start l.who.number) (take l.entry-index l.entry-items)
      l.replay;
  ended : l.replay.state.ended ≤ l.entry-index;
}
