use Rattle.std.proofs.Common.{◌≡◌, ◌+◌, ◌-◌, arith, decimal, refl, rules}
use Rattle.std.proofs.lemmas.Fmt.{length-decimal-le}
use Rattle.std.proofs.lemmas.List.{drop-set}
use Rattle.sink_journal.proofs.FieldLemmas.{decimal-plain, plain-field}
use Rattle.sink_journal.proofs.lines.put_number.Goals as goal

pub write_digits-start-requires : goal.write_digits-start-requires
write_digits-start-requires c = (omega (arith, c.requires, length-decimal-le 20 c.args.number (omega arith) (omega (arith, c.ranges.number.fits)) (omega (arith, c.ranges.number.fits))), search rules)

pub overflow_sub-text : goal.overflow_sub-text
overflow_sub-text c = omega (arith, c.requires, c.write_digits-start.ensures.start, length-decimal-le 20 c.args.number (omega arith) (omega (arith, c.ranges.number.fits)) (omega (arith, c.ranges.number.fits)))

pub overflow_sub-result : goal.overflow_sub-result
overflow_sub-result c = omega (arith, c.requires, c.write_digits-start.ensures.start, length-decimal-le 20 c.args.number (omega arith) (omega (arith, c.ranges.number.fits)) (omega (arith, c.ranges.number.fits)))

pub returns-clause-start : goal.returns-clause-start
returns-clause-start c =
    let long = length-decimal-le 20 c.args.number (omega arith) (omega (arith, c.ranges.number.fits)) (omega (arith, c.ranges.number.fits)) in
    (omega (arith, c.requires, c.write_digits-start.ensures.start, long), omega (arith, c.requires, c.write_digits-start.ensures.start, long))

pub returns-clause-text : goal.returns-clause-text
returns-clause-text c =
    let w = c.write_digits-start in
    let long = length-decimal-le 20 c.args.number (omega arith) (omega (arith, c.ranges.number.fits)) (omega (arith, c.ranges.number.fits)) in
    let e : w.result - 1 + 1 ≡ w.result = omega (arith, c.requires, w.ensures.start, long) in
    rw (drop-set w.new.buf (w.result - 1) 44 (omega (arith, c.requires, w.ensures.start, long)), e, w.ensures.written, plain-field (decimal c.args.number) (decimal-plain c.args.number c.ranges.number.fits)) refl
