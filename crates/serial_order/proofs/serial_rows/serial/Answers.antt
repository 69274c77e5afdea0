use Rattle.std.proofs.Common.{◌≡◌, ◌∙◌, ◌+◌, List, ap, arith, length, map, replicate, suc, subst}
use Rattle.tuple_trace.specs.Rows.{AreRows}
use Rattle.tuple_trace.specs.declared.row.Row.{Row}
use Rattle.flow_model.specs.Record.{record_view}
use Rattle.flow_model.specs.Run.{Ran}
use Rattle.flow_model.specs.Serial.{newest}
use Rattle.flow_model.specs.Whole.{is_new}
use Rattle.serial_order.specs.Places.{rows_numbered}
use Rattle.serial_order.proofs.NewLemmas.{newest_next, zeros-first}
use Rattle.serial_order.proofs.serial_rows.serial.Goals as goal

pub loop-place-init : goal.loop-place-init
loop-place-init c =
    c.in_ok-numbers.ensures ∙ (ap (λ (l : List Row). replicate (length l) 0) c.as_slice-listed.ensures.value ∙ zeros-first c.args.rows.now)

pub loop-place-preserved : goal.loop-place-preserved
loop-place-preserved c =
    let ran : Ran = record_view c.args.ran.now in
    let place = c.loop-place.place in
    let are : AreRows c.args.rows.now = subst AreRows c.as_slice-listed.ensures.value c.as_slice-listed.ensures.rows in
    let next : rows_numbered (is_new ran (suc place)) (suc place) 1 (map (λ (row : Row). newest ran row.tuple.row place) c.args.rows.now) ≡ map (λ (row : Row). newest ran row.tuple.row (suc place)) c.args.rows.now =
    newest_next ran place 1 c.args.rows.now (λ i row g. let n : row.tuple.row ≡ i + 1 = (are i row g).numbered in omega arith) in
    let e : suc place ≡ place + 1 = omega arith in
    c.number_new.ensures
    ∙ (ap (rows_numbered (is_new ran (place + 1)) (place + 1) 1) c.loop-place.invariant
    ∙ subst (λ k. rows_numbered (is_new ran k) k 1 (map (λ (row : Row). newest ran row.tuple.row place) c.args.rows.now) ≡ map (λ (row : Row). newest ran row.tuple.row k) c.args.rows.now) e next)
