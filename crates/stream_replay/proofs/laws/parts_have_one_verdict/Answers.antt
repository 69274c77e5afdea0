use Rattle.stream_replay.proofs.LooseLemmas.{loose_apart, loose_sole}
use Rattle.stream_replay.proofs.laws.parts_have_one_verdict.Goals as goal

pub returns-clause-apart : goal.returns-clause-apart
returns-clause-apart c given earlier last part all loose =
    loose_apart given earlier last part all loose

pub returns-clause-sole : goal.returns-clause-sole
returns-clause-sole c given earlier last first second a b =
    loose_sole given earlier last first second a b
