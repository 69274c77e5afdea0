use Rattle.std.proofs.Common.{◌≡◌, ◌+◌, drop}
use Rattle.stream_save.specs.StreamReading.{misplaced}
use Rattle.stream_save.proofs.waits.misplaced.Given as goal

abbrev pub invariant-loop-place : goal.invariant-loop-place
invariant-loop-place l =
    misplaced l.row (l.place + 1) l.before (drop l.place l.waits) ≡ misplaced l.row 1 0 l.waits
