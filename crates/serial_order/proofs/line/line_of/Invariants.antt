use Rattle.std.proofs.Common.{◌≡◌, ◌++◌, ◌-◌}
use Rattle.std.specs.Prelude.{codes}
use Rattle.std.specs.List.{flat_map, range_with_len}
use Rattle.serial_order.specs.Serials.{count_words}
use Rattle.serial_order.proofs.line.line_of.Given as goal

abbrev pub invariant-loop-k : goal.invariant-loop-k
invariant-loop-k l =
    l.line ++ flat_map (count_words l.serial) (range_with_len l.k (l.requests - l.k))
    ≡ codes "serial" ++ flat_map (count_words l.serial) (range_with_len 0 l.requests)
