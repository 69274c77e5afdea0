use Rattle.std.proofs.Common.{◌≡◌, take}
use Rattle.stream_replay.proofs.progress.fed_up_to.Given as goal

abbrev pub invariant-loop-place : goal.invariant-loop-place
invariant-loop-place l = l.fed ≡ take l.place l.all
