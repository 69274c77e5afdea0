use Rattle.jobs.proofs.KindLemmas.{kind_by_name, test_by_word}
use Rattle.jobs.proofs.laws.names_tell_kinds.Goals as goal

pub returns-clause-kinds : goal.returns-clause-kinds
returns-clause-kinds c = kind_by_name

pub returns-clause-tests : goal.returns-clause-tests
returns-clause-tests c = test_by_word
