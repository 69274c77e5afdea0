use Rattle.stream_law.proofs.LateLemmas.{unlifted-no_part}
use Rattle.stream_law.proofs.examples.unlifted_requests_are_no_part.Goals as goal

pub returns : goal.returns
returns c setup same next = unlifted-no_part setup same next
