use Rattle.input_pieces.proofs.PieceLemmas.{one_by_one}
use Rattle.input_pieces.proofs.laws.cut_pieces_are_read_one_by_one.Goals as goal

pub returns : goal.returns
returns c pieces last cut = one_by_one pieces last cut
