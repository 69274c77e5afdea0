use Rattle.sink_journal.proofs.PartLemmas.{header-parts}
use Rattle.sink_journal.proofs.laws.parts_follow_one_header.Goals as goal

pub returns : goal.returns
returns c = header-parts
