use Rattle.std.proofs.Common.{[], w64}
use Rattle.std.proofs.lemmas.Int.{to_z-of_z}
use Rattle.sink_journal.specs.Printed.{cents_of}
use Rattle.sink_journal.proofs.FieldLemmas.{cents-plain, field-onto, on-ok}
use Rattle.sink_journal.proofs.lines.Lines.add_cents.Goals as goal

pub returns : goal.returns
returns c =
    let plain = cents-plain c.args.amount c.ranges.amount in
    on-ok c.spell_cents.result (λ text. field-onto c.args.self.now c.self.inside.text c.push.new.self c.spell_cents.new.self [] (cents_of c.args.amount) c.self.view_is c.in_ok-push.ensures.ok text plain) (simp (to_z-of_z w64 c.args.amount c.ranges.amount) at c.spell_cents.ensures)
