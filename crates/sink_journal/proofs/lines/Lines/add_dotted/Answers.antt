use Rattle.std.proofs.Common.{[]}
use Rattle.sink_journal.specs.Audit.{dotted}
use Rattle.sink_journal.proofs.FieldLemmas.{dotted-plain, field-onto, on-ok}
use Rattle.sink_journal.proofs.lines.Lines.add_dotted.Goals as goal

pub returns : goal.returns
returns c = on-ok c.spell_dotted.result (λ text. field-onto c.args.self.now c.self.inside.text c.push.new.self c.spell_dotted.new.self [] (dotted c.args.numbers.now) c.self.view_is c.in_ok-push.ensures.ok text (dotted-plain c.args.numbers.now c.type_inv.numbers)) c.spell_dotted.ensures
