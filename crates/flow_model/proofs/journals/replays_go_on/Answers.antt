use Rattle.flow_model.proofs.JournalLemmas.{after_all-append, sent-append, shown-append}
use Rattle.flow_model.proofs.journals.replays_go_on.Goals as goal

pub returns-clause-sent : goal.returns-clause-sent
returns-clause-sent c = sent-append

pub returns-clause-view : goal.returns-clause-view
returns-clause-view c = after_all-append

pub returns-clause-shown : goal.returns-clause-shown
returns-clause-shown c = shown-append
