use Rattle.std.proofs.Common.{inr}
use Rattle.std.proofs.lemmas.Result.{err_from_is_err_and}
use Rattle.jobs.specs.Job.{job_view}
use Rattle.flow_model.specs.Setup.{setup_view}
use Rattle.fries_steps.proofs.StartLemmas.{save_suits}
use Rattle.fries_call.proofs.resume.run_later.Goals as goal

pub returns-in_err-start-clause-cause : goal.returns-in_err-start-clause-cause
returns-in_err-start-clause-cause g c =
    let unread = rw (c.len.ensures, c.in_ok-inputs.ensures.kept) at c.in_err-start.ensures.cause in
    let fault = err_from_is_err_and c.from_residual-in_err-start.result c.from_residual-in_err-start.ensures.1 in
    rw (fault.1, fault.2) (inr (record {
      job = job_view c.in_ok-inputs.inputs.job;
      requests = c.in_ok-inputs.inputs.requests;
      rows = c.in_ok-inputs.inputs.rows;
      setup = c.in_ok-setup.setup;
      of_files = c.in_ok-inputs.ensures.inputs;
      setup_is = c.in_ok-setup.ensures;
      unread = unread;
    }))

pub run_later_part-requires-clause-turned : goal.run_later_part-requires-clause-turned
run_later_part-requires-clause-turned g c κs within =
    let of = c.in_ok-start.ensures.start in
    (save_suits (setup_view c.in_ok-setup.setup) _ of.bytes c.in_ok-start.start of.are_so).turned

pub run_later_part-requires-clause-states : goal.run_later_part-requires-clause-states
run_later_part-requires-clause-states g c κs within =
    let of = c.in_ok-start.ensures.start in
    (save_suits (setup_view c.in_ok-setup.setup) _ of.bytes c.in_ok-start.start of.are_so).states
