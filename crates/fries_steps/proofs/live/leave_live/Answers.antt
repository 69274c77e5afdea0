use Rattle.std.proofs.Common.{◌∙◌}
use Rattle.fries_steps.proofs.live.leave_live.Goals as goal

pub returns-clause-outcome : goal.returns-clause-outcome
returns-clause-outcome g c = (c.err-written.result, rw c.err-written.ensures.value c.write_live.ensures, c.of_run.ensures.fault ∙ c.live_fault-fault.ensures)
