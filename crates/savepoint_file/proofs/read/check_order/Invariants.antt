use Rattle.std.proofs.Common.{◌≡◌, ◌+◌, None, drop, take}
use Rattle.std.specs.Prelude.{option_copied}
use Rattle.savepoint_file.specs.Steps.{with_those_after, placed_in, there}
use Rattle.savepoint_file.proofs.read.check_order.Given as goal

abbrev pub invariant-loop-place : goal.invariant-loop-place
invariant-loop-place l =
    with_those_after (there (take l.place l.counts)) (placed_in (l.first + l.place) (option_copied l.before) (drop l.place l.counts))
    ≡ placed_in l.first None l.counts
