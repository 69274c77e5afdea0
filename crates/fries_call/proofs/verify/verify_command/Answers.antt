use Rattle.std.proofs.Common.{inl, inr, refl}
use Rattle.fries_call.proofs.verify.verify_command.Goals as goal

pub returns-in-Err : goal.returns-in-Err
returns-in-Err g c = inl (record {
  why = c.in-Err.fault;
  answer_is = c.stopped.ensures;
  cause = c.in-Err.ensures.cause;
  files = c.verified_run.ensures.files;
  draft = c.verified_run.ensures.draft;
  out = refl;
})

pub returns-in-Ok : goal.returns-in-Ok
returns-in-Ok g c = inr (record {
  done = c.in-Ok.done;
  is_so = c.in-Ok.ensures.run;
  lines = record {
    shelf = c.in-Ok.ensures.kept;
    prints = rw (c.of_run.ensures.fault, c.err-fault.ensures.value) c.print_verified.ensures;
  };
  refused = c.of_run.ensures.refused;
  ran = c.of_run.ensures.ran;
  start = c.of_run.ensures.start;
})
