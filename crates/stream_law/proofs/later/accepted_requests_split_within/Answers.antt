use Rattle.stream_law.proofs.SplitLemmas.{splits_within}
use Rattle.stream_law.proofs.later.accepted_requests_split_within.Goals as goal

pub returns : goal.returns
returns c splits job requests node made = splits_within splits job requests node made
