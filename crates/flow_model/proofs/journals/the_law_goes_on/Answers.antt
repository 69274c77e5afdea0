use Rattle.flow_model.proofs.JournalLemmas.{IsExecution-append, IsExecution-places, progress_after-append}
use Rattle.flow_model.proofs.journals.the_law_goes_on.Goals as goal

pub returns-clause-execution : goal.returns-clause-execution
returns-clause-execution c = IsExecution-append

pub returns-clause-progress : goal.returns-clause-progress
returns-clause-progress c = progress_after-append

pub returns-clause-places : goal.returns-clause-places
returns-clause-places c = IsExecution-places
