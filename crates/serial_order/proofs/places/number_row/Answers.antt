use Rattle.std.proofs.Common.{◌≡◌, ◌∙◌, ◌<◌, ◌≤◌, ◌+◌, arith, length, sym}
use Rattle.std.proofs.lemmas.Bool.Decides.{nat_tests}
use Rattle.serial_order.proofs.NumberedLemmas.{no_row, one_row, row_after}
use Rattle.serial_order.proofs.places.number_row.Goals as goal

pub returns-in_default : goal.returns-in_default
returns-in_default c =
    let none : c.args.row < 1 = grind (arith, nat_tests, c.in_default.ensures, c.in_default.is, c.checked_sub.ensures) in
    sym (no_row c.args.row c.args.request c.args.numbers.now none)

pub returns-then-place-len : goal.returns-then-place-len
returns-then-place-len c =
    let row : c.args.row ≡ c.in-Some.place + 1 = grind (arith, nat_tests, c.in-Some.ensures, c.in-Some.is, c.checked_sub.ensures) in
    c.set.ensures ∙ sym (one_row c.args.row c.in-Some.place c.args.request c.args.numbers.now row)

pub returns-else-place-len : goal.returns-else-place-len
returns-else-place-len c =
    let row : c.args.row ≡ c.in-Some.place + 1 = grind (arith, nat_tests, c.in-Some.ensures, c.in-Some.is, c.checked_sub.ensures) in
    let past : length c.args.numbers.now ≤ c.in-Some.place = omega (arith, c.if-place-len.false, c.len.ensures) in
    sym (row_after c.args.row c.in-Some.place c.args.request c.args.numbers.now row past)
