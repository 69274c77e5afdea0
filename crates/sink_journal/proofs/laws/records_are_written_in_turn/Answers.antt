use Rattle.sink_journal.proofs.PartLemmas.{records-append}
use Rattle.sink_journal.proofs.laws.records_are_written_in_turn.Goals as goal

pub returns : goal.returns
returns c = records-append
