use Rattle.std.proofs.Common.{◌∙◌, sym}
use Rattle.payments.proofs.MadeLemmas.{fields_made-end, fields_made-step, number_after_fields-end, number_after_fields-step}
use Rattle.payments.proofs.make.fields_of.Goals as goal

pub loop-column-preserved : goal.loop-column-preserved
loop-column-preserved c =
    let inv = c.loop-column.invariant in
    let field = fields_made-step c.args.columns.now c.loop-column.column-index c.column-item.result c.loop-column.draws.number c.field_of.new.draws.number c.loop-column.fields c.in_ok-field.field
    c.loop-column-test.true c.column-item.is c.in_ok-field.ensures.ok c.in_ok-field.ensures.draws in
    let number = number_after_fields-step c.args.columns.now c.loop-column.column-index c.column-item.result c.loop-column.draws.number c.field_of.new.draws.number
    c.loop-column-test.true c.column-item.is c.in_ok-field.ensures.draws in
    rw c.in_ok-push.ensures.ok (record { left = field ∙ inv.left; number = number ∙ inv.number })

pub returns-clause-ok : goal.returns-clause-ok
returns-clause-ok c =
    rw c.in_ok-shared.ensures (sym (fields_made-end c.args.columns.now c.loop-column.column-index c.loop-column.draws.number c.loop-column.fields c.loop-column-test.false)
    ∙ c.loop-column.invariant.left)

pub returns-clause-draws : goal.returns-clause-draws
returns-clause-draws c = sym (number_after_fields-end c.args.columns.now c.loop-column.column-index c.loop-column.draws.number c.loop-column-test.false) ∙ c.loop-column.invariant.number
