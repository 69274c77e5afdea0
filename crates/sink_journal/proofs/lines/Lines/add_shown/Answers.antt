use Rattle.std.proofs.Common.{rules}
use Rattle.sink_journal.proofs.FieldLemmas.{one-empty}
use Rattle.sink_journal.proofs.lines.Lines.add_shown.Goals as goal

pub returns-in-None : goal.returns-in-None
returns-in-None c = rw (c.in-None.is, one-empty) (search rules)
