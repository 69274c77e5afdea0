use Rattle.std.proofs.Common.{◌≡◌, ◌∙◌, drop, rules, true}
use Rattle.csv.specs.Records.{fields_of}
use Rattle.payments.specs.Reading.{begins_with}
use Rattle.payments.proofs.CellLemmas.{begins_with-within, same-given, same-own}
use Rattle.payments.proofs.cells.is_header.Goals as goal
use Rattle.payments.proofs.cells.is_header.Goals.{else-not-column, then-not-column+else-not-is_cell-2}

pub overflow_add-next : goal.overflow_add-next
overflow_add-next c =
    let begins : begins_with c.column-item.result.name (drop c.loop-column.next (fields_of c.args.cells.now)) ≡ true = search rules in
    let less = begins_with-within (fields_of c.args.cells.now) c.loop-column.next c.column-item.result.name begins in
    search rules

pub loop-column-preserved : goal.loop-column-preserved
loop-column-preserved c =
    let cells = fields_of c.args.cells.now in
    let inv = c.loop-column.invariant in
    elim c.if-not-column.branch [
      | then-not-column+else-not-is_cell-2 w ↦
          let begins : begins_with c.column-item.result.name (drop c.loop-column.next cells) ≡ true = search rules in
          let step = same-given c.args.columns.now c.loop-column.column-index c.column-item.result cells c.loop-column.next c.loop-column-test.true c.column-item.is w.if-not-column.true begins in
          rw w.next-is (record { within = begins_with-within cells c.loop-column.next c.column-item.result.name begins; left = step ∙ inv.left })
      | else-not-column w ↦
          let step = same-own c.args.columns.now c.loop-column.column-index c.column-item.result (drop c.loop-column.next cells) c.loop-column-test.true c.column-item.is w.if-not-column.false in
          rw w.next-is (record { within = inv.within; left = step ∙ inv.left })
    ]
