use Rattle.sink_journal.proofs.FieldLemmas.{text-onto, on-ok}
use Rattle.sink_journal.proofs.lines.Lines.add_text.Goals as goal

pub returns : goal.returns
returns c =
    on-ok c.add_first.result (λ text. text-onto c.args.self.now c.self.inside.text c.push.new.self c.add_first.new.self c.args.field.now c.self.view_is c.in_ok-push.ensures.ok text) c.add_first.ensures
