use Rattle.std.proofs.Common.{◌≡◌, length, map}
use Rattle.std.specs.Vec.Iter.{into_iter_items, into_iter_len}
use Rattle.flow_model.specs.Lanes.{lanes_out, out_numbers}
use Rattle.flow_model.specs.Replay.{put_out}
use Rattle.flow_model.specs.SetupWorker.{setup_here, who_here}
use Rattle.flow_replay.specs.inner.Replays.{with_puts}
use Rattle.flow_replay.proofs.replaying.send.Given as goal

-- what is put of the outputs that are left, after what was put, is what is put of them all
abbrev pub invariant-loop-output : goal.invariant-loop-output
invariant-loop-output l = record {
  may : (goal.iterator-loop-output).can_next l.output-iterator;
  finite : (goal.iterator-loop-output).is_finite l.output-iterator;
  counted : into_iter_len l.output-iterator ≡ length (into_iter_items l.output-iterator);
  long : length l.lists ≡ length (out_numbers (setup_here l.who).job l.who.number);
  put : with_puts (lanes_out (setup_here l.who).job l.who.number) (map (put_out (setup_here l.who).job
      (who_here l.who)) (into_iter_items l.output-iterator)) l.lists
      ≡ with_puts (lanes_out (setup_here l.who).job l.who.number) (map (put_out (setup_here l.who).job
      (who_here l.who)) l.fn.outs) l.fn.lists;
}
