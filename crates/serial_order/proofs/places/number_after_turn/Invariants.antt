use Rattle.std.proofs.Common.{◌≡◌, drop}
use Rattle.flow_model.specs.Whole.{after_turn, meets_row}
use Rattle.serial_order.specs.Places.{rows_numbered}
use Rattle.serial_order.proofs.NewLemmas.{rest_after}
use Rattle.serial_order.proofs.places.number_after_turn.Given as goal

abbrev pub invariant-loop-entry : goal.invariant-loop-entry
invariant-loop-entry l =
    rows_numbered (λ row. meets_row row (rest_after l.turned l.request (drop l.entry-index l.journal))) l.request 1 l.numbers
    ≡ rows_numbered (λ row. meets_row row (after_turn l.request l.journal)) l.request 1 l.fn.numbers
