use Rattle.std.proofs.Common.{inr}
use Rattle.fries_call.proofs.make.make_command.Goals as goal

pub returns-in-Ok : goal.returns-in-Ok
returns-in-Ok g c = inr (record {
  done = c.in-Ok.done;
  is_so = c.in-Ok.ensures.run;
  lines = record {
    shelf = c.in-Ok.ensures.kept;
    prints = rw (c.of_run.ensures.fault, c.err-fault.ensures.value) c.print_run.ensures;
  };
  refused = c.of_run.ensures.refused;
  ran = c.of_run.ensures.ran;
  start = c.of_run.ensures.start;
})
