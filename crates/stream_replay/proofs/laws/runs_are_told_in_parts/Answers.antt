use Rattle.stream_replay.proofs.RunsLemmas.{told_in_parts}
use Rattle.stream_replay.proofs.laws.runs_are_told_in_parts.Goals as goal

pub returns : goal.returns
returns c given ends last left runs ended = told_in_parts given ends last left runs ended
