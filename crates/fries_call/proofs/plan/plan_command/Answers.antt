use Rattle.std.proofs.Common.{inr, refl}
use Rattle.fries_call.proofs.plan.plan_command.Goals as goal

pub returns-in-Ok : goal.returns-in-Ok
returns-in-Ok g c = inr (record {
  setup = c.in-Ok.setup;
  of_files = c.in-Ok.ensures.setup;
  lines = record {
    shelf = c.in-Ok.ensures.kept;
    prints = rw c.err-fault.ensures.value c.print_setup.ensures;
  };
  refused = c.refused_of.ensures;
  ran = refl;
  start = refl;
})
