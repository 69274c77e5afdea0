use Rattle.stream_rows.proofs.ReadLemmas.{rows_go_on}
use Rattle.stream_rows.proofs.laws.rows_of_pieces_go_on.Goals as goal

pub returns : goal.returns
returns c job skipped before piece cut sound some =
    rows_go_on job skipped before piece cut sound some
