use Rattle.audit_live.proofs.LiveLemmas.{is_live, waits_so}
use Rattle.audit_live.proofs.laws.runs_that_wait_as_shown_are_live.Goals as goal

pub returns-clause-waits : goal.returns-clause-waits
returns-clause-waits c setup rows told ran is = waits_so setup rows told ran is

pub returns-clause-live : goal.returns-clause-live
returns-clause-live c setup rows told ran is = is_live setup rows told ran is
