use Rattle.stream_rows.proofs.ReadLemmas.{IsCut-append}
use Rattle.stream_rows.proofs.laws.cut_texts_join.Goals as goal

pub returns : goal.returns
returns c before piece cut end = IsCut-append before piece cut end
