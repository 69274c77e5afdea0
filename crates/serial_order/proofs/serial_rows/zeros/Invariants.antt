use Rattle.std.proofs.Common.{◌≡◌, replicate}
use Rattle.serial_order.proofs.serial_rows.zeros.Given as goal

abbrev pub invariant-loop-row : goal.invariant-loop-row
invariant-loop-row l = l.zeros ≡ replicate l._row 0
