use Rattle.std.proofs.Common.{sym}
use Rattle.std.proofs.lemmas.Fmt.{decimal_digit}
use Rattle.sink_journal.proofs.lines.digit.Goals as goal

pub returns : goal.returns
returns c = sym (decimal_digit c.args.number c.requires)
