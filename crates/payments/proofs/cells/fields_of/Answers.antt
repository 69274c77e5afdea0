use Rattle.std.proofs.Common.{◌∙◌, sym}
use Rattle.std.proofs.lemmas.Result.{err_from_is_err_and}
use Rattle.csv.specs.Records.{fields_of}
use Rattle.payments.proofs.CellLemmas.{fields_from-end, fields_from-fault, fields_from-ok}
use Rattle.payments.proofs.cells.fields_of.Goals as goal

pub returns-in_err-field-clause-fault : goal.returns-in_err-field-clause-fault
returns-in_err-field-clause-fault c =
    let p = err_from_is_err_and c.from_residual-in_err-field.result c.from_residual-in_err-field.ensures.1 in
    rw (p.1, p.2) (λ other.
    sym c.loop-place.invariant
    ∙ fields_from-fault c.args.row c.loop-place.place c.args.columns.now c.index-columns-place.result _ c.loop-place.fields _ c.loop-place-test.true c.index-columns-place.is (c.in_err-field.ensures.fault other))

pub loop-place-preserved : goal.loop-place-preserved
loop-place-preserved c =
    rw c.in_ok-push.ensures.ok (fields_from-ok c.args.row c.loop-place.place c.args.columns.now c.index-columns-place.result (fields_of c.args.cells.now) c.loop-place.next c.field_of.new.next c.loop-place.fields c.in_ok-field.field
    c.loop-place-test.true c.index-columns-place.is c.in_ok-field.ensures.ok c.in_ok-field.ensures.rest ∙ c.loop-place.invariant)

pub returns-clause-ok : goal.returns-clause-ok
returns-clause-ok c =
    rw c.in_ok-shared.ensures (sym c.loop-place.invariant
    ∙ fields_from-end c.args.row c.loop-place.place c.args.columns.now _ c.loop-place.fields c.loop-place-test.false)
