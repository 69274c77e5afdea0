use Rattle.stream_law.proofs.NextLemmas.{all_run}
use Rattle.stream_law.proofs.parts.parts_in_a_row_are_a_run.Goals as goal

pub returns : goal.returns
returns c so_far parts is next = all_run so_far parts is next
