use Rattle.csv.specs.Reading.{default_config}
use Rattle.input_pieces.proofs.CutLemmas.{records_both}
use Rattle.input_pieces.proofs.laws.cut_texts_are_read_in_two.Goals as goal

pub returns : goal.returns
returns c first second cut = records_both default_config first second cut
