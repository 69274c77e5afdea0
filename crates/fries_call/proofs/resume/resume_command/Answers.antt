use Rattle.std.proofs.Common.{inr, refl}
use Rattle.fries_call.proofs.resume.resume_command.Goals as goal

pub returns-in-Ok : goal.returns-in-Ok
returns-in-Ok g c =
    let ran = c.leave_run-answer.ensures in
    inr (
      c.in-Ok.field-0.start,
      record {
        done = c.in-Ok.field-0.done;
        is_so = c.in-Ok.ensures.run;
        outcome = rw (← c.in-Ok.ensures.kept) ran.outcome;
        refused = ran.refused;
        ran = ran.ran;
        start = refl;
      },
    )
