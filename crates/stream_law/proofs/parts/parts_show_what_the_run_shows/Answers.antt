use Rattle.stream_law.proofs.ShownLemmas.{all_shown}
use Rattle.stream_law.proofs.parts.parts_show_what_the_run_shows.Goals as goal

pub returns : goal.returns
returns c so_far parts is next = all_shown so_far parts is next
