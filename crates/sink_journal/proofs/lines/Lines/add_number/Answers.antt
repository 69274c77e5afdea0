use Rattle.std.proofs.Common.{[], decimal}
use Rattle.sink_journal.proofs.FieldLemmas.{decimal-plain, field-onto, on-ok}
use Rattle.sink_journal.proofs.lines.Lines.add_number.Goals as goal

pub returns : goal.returns
returns c =
    let plain = decimal-plain c.args.number c.ranges.number.fits in
    on-ok c.spell.result (λ text. field-onto c.args.self.now c.self.inside.text c.push.new.self c.spell.new.self [] (decimal c.args.number) c.self.view_is c.in_ok-push.ensures.ok text plain) c.spell.ensures
