use Rattle.std.proofs.Common.{inr, refl}
use Rattle.jobs.specs.Job.{job_view}
use Rattle.fries_call.proofs.check.check_command.Goals as goal

pub returns-in-Ok : goal.returns-in-Ok
returns-in-Ok g c = inr (
  job_view c.in-Ok.job,
  c.in-Ok.ensures.job,
  record {
    lines = record {
      shelf = c.in-Ok.ensures.kept;
      prints = rw c.err.ensures.value c.print_sizes.ensures;
    };
    refused = c.new.ensures;
    ran = refl;
    start = refl;
  },
)
