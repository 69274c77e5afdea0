use Rattle.std.proofs.Common.{inr}
use Rattle.fries_call.proofs.first.first_command.Goals as goal

pub returns-in-Ok : goal.returns-in-Ok
returns-in-Ok g c = inr (record {
  done = c.in-Ok.done;
  is_so = c.in-Ok.ensures.run;
  outcome = rw (← c.in-Ok.ensures.kept) c.leave_run.ensures.outcome;
  refused = c.leave_run.ensures.refused;
  ran = c.leave_run.ensures.ran;
  start = c.leave_run.ensures.start;
})
