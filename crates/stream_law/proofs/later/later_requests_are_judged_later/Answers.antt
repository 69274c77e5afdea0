use Rattle.stream_law.proofs.JudgedLemmas.{judged_prefix}
use Rattle.stream_law.proofs.later.later_requests_are_judged_later.Goals as goal

pub returns : goal.returns
returns c splits job earlier later = judged_prefix splits job earlier later
