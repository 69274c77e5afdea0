use Rattle.stream_law.proofs.ExtendedLemmas.{first_extended}
use Rattle.stream_law.proofs.later.later_requests_extend_a_setup.Goals as goal

pub returns : goal.returns
returns c setup requests plans e = first_extended setup requests plans e
