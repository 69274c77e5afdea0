use Rattle.std.proofs.Common.{◌≡◌, drop}
use Rattle.std.specs.List.{list_any}
use Rattle.flow_model.specs.Record.{record_view}
use Rattle.flow_model.specs.Whole.{is_new}
use Rattle.flow_model.specs.Workers.{workers_in}
use Rattle.serial_order.specs.Places.{rows_numbered}
use Rattle.serial_order.proofs.NewLemmas.{is_new_at}
use Rattle.serial_order.proofs.serial_rows.number_new.Given as goal

abbrev pub invariant-loop-worker : goal.invariant-loop-worker
invariant-loop-worker l =
    rows_numbered (λ row. list_any (is_new_at (record_view l.ran) l.request row) (drop l.worker (workers_in (record_view l.ran).setup.job))) l.request 1 l.numbers
    ≡ rows_numbered (is_new (record_view l.ran) l.request) l.request 1 l.fn.numbers
