use Rattle.std.proofs.Common.{◌≡◌, ◌∙◌, List, None, ap, arith, slice_get, sym}
use Rattle.std.proofs.lemmas.Grind.{common_steps}
use Rattle.std.proofs.lemmas.Option.{gets}
use Rattle.sink_journal.specs.declared.journal.Entry.{Entry}
use Rattle.serial_order.proofs.NumberedLemmas.{none_pass}
use Rattle.serial_order.proofs.serial_rows.number_at_worker.Goals as goal

pub returns-in_default : goal.returns-in_default
returns-in_default c =
    let none : slice_get c.as_slice.result.now c.args.worker ≡ None = grind (arith, common_steps, gets, c.in_default.ensures.lookup) in
    let there : slice_get c.args.ran.now.journals c.args.worker ≡ None = ap (λ (l : List (List Entry)). slice_get l c.args.worker) (sym c.as_slice.ensures) ∙ none in
    rw there (sym (none_pass c.args.request 1 c.args.numbers.now))
