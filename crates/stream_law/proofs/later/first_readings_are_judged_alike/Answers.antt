use Rattle.stream_law.proofs.SplitLemmas.{settled}
use Rattle.stream_law.proofs.later.first_readings_are_judged_alike.Goals as goal

pub returns : goal.returns
returns c splits job requests all = settled splits job requests all
