use Rattle.std.proofs.Common.{[], ◌∷◌, decimal, arith}
use Rattle.sink_journal.proofs.FieldLemmas.{decimal-plain, field-onto, on-ok}
use Rattle.sink_journal.proofs.lines.Lines.add_code.Goals as goal

pub returns : goal.returns
returns c =
    let plain = decimal-plain c.args.code (omega (arith, c.ranges.code.fits)) in
    on-ok c.spell.result (λ text. field-onto c.args.self.now c.self.inside.text c.extend_from_slice.new.self c.spell.new.self (81 ∷ []) (decimal c.args.code) c.self.view_is c.in_ok-extend_from_slice.ensures.ok text plain) (rw c.into.ensures at c.spell.ensures)
