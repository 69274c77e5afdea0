use Rattle.std.proofs.Common.{◌≡◌, map}
use Rattle.tuple_trace.specs.declared.row.Row.{Row}
use Rattle.flow_model.specs.Record.{record_view}
use Rattle.flow_model.specs.Serial.{newest}
use Rattle.serial_order.proofs.serial_rows.serial.Given as goal

abbrev pub invariant-loop-place : goal.invariant-loop-place
invariant-loop-place l = l.numbers ≡ map (λ (row : Row). newest (record_view l.ran) row.tuple.row l.place) l.rows
