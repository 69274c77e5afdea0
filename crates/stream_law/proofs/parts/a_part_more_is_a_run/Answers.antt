use Rattle.stream_law.proofs.NextLemmas.{next_run}
use Rattle.stream_law.proofs.parts.a_part_more_is_a_run.Goals as goal

pub returns : goal.returns
returns c so_far part is next = next_run so_far part is next
