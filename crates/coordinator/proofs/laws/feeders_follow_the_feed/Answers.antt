use Rattle.coordinator.proofs.Meaning.{next, puts, recorded, sends, sent_all}
use Rattle.coordinator.proofs.laws.feeders_follow_the_feed.Goals as goal

pub returns-clause-sends : goal.returns-clause-sends
returns-clause-sends c = sends

pub returns-clause-all : goal.returns-clause-all
returns-clause-all c = sent_all

pub returns-clause-recorded : goal.returns-clause-recorded
returns-clause-recorded c = recorded

pub returns-clause-puts : goal.returns-clause-puts
returns-clause-puts c = puts

pub returns-clause-next : goal.returns-clause-next
returns-clause-next c = next
