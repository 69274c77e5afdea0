use Rattle.std.proofs.Common.{◌∙◌, ap}
use Rattle.std.proofs.lemmas.Result.{IfOk-weaker}
use Rattle.jobs.specs.Job.{job_view}
use Rattle.flow_model.specs.declared.record.RunRecord.{RunRecord}
use Rattle.fries_steps.specs.SetupFor.{AreSame}
use Rattle.fries_steps.proofs.RunLemmas.{is_run_of, journals_of, run_so, states_of}
use Rattle.fries_steps.proofs.running.run_on_threads.Goals as goal

pub returns-clause-run : goal.returns-clause-run
returns-clause-run g c =
    IfOk-weaker c.done_of.result _ _ (λ done of. is_run_of AreSame c.args.ordered (job_view c.args.job) c.args.requests.now c.args.rows.now c.in_ok-setup.setup c.in_ok-ran.ran done c.in_ok-setup.ensures
    (record { consistent = λ ran. c.runs_are_consistent.ensures c.args.rows.now ran c.are_numbered.ensures; prefix = c.ordered_runs_are_serial.ensures.prefix; serial = c.ordered_runs_are_serial.ensures.landings })
    c.requires.sources (ap (λ (r : RunRecord). r.setup) c.in_ok-ran.ensures ∙ c.in_ok-flown.ensures.setup) (run_so c.in_ok-setup.setup c.in_ok-flown.flown.setup c.args.rows.now c.in_ok-flown.flown.feeds c.in_ok-flown.flown.crew.items c.in_ok-ran.ran
    c.in_ok-flown.ensures.setup (rw c.all-fed.ensures at c.in_ok-flown.ensures.run) c.in_ok-ran.ensures) of) c.done_of.ensures

pub returns-clause-journals : goal.returns-clause-journals
returns-clause-journals g c =
    IfOk-weaker c.done_of.result _ _ (λ done of. journals_of c.in_ok-setup.setup c.args.requests.now c.args.rows.now c.in_ok-ran.ran done (run_so c.in_ok-setup.setup c.in_ok-flown.flown.setup c.args.rows.now c.in_ok-flown.flown.feeds c.in_ok-flown.flown.crew.items c.in_ok-ran.ran
    c.in_ok-flown.ensures.setup (rw c.all-fed.ensures at c.in_ok-flown.ensures.run) c.in_ok-ran.ensures) of) c.done_of.ensures

pub returns-clause-states : goal.returns-clause-states
returns-clause-states g c =
    IfOk-weaker c.done_of.result _ _ (λ done of. states_of c.in_ok-setup.setup c.args.requests.now c.args.rows.now c.in_ok-ran.ran done (run_so c.in_ok-setup.setup c.in_ok-flown.flown.setup c.args.rows.now c.in_ok-flown.flown.feeds c.in_ok-flown.flown.crew.items c.in_ok-ran.ran
    c.in_ok-flown.ensures.setup (rw c.all-fed.ensures at c.in_ok-flown.ensures.run) c.in_ok-ran.ensures) of) c.done_of.ensures
