use Rattle.input_pieces.proofs.PieceLemmas.{calls_join}
use Rattle.input_pieces.proofs.laws.pieces_join_to_what_was_read.Goals as goal

pub returns : goal.returns
returns c kept calls keeps are = calls_join kept calls keeps are
