use Rattle.std.proofs.Common.{◌≡◌, ◌++◌, drop}
use Rattle.sink_journal.specs.Audit.{dotted}
use Rattle.sink_journal.proofs.FieldLemmas.{later_text}
use Rattle.sink_journal.proofs.lines.Lines.spell_dotted.Given as goal

abbrev pub invariant-loop-number : goal.invariant-loop-number
invariant-loop-number l = l.self ++ later_text (drop l.number-index l.later) ≡ l.fn.self ++ dotted l.numbers
