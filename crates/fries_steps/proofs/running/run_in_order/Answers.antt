use Rattle.std.proofs.Common.{false}
use Rattle.std.proofs.lemmas.Result.{IfOk-weaker}
use Rattle.jobs.specs.Job.{job_view}
use Rattle.fries_steps.specs.SetupFor.{AreSame}
use Rattle.fries_steps.proofs.RunLemmas.{is_run_of, journals_of, states_of}
use Rattle.fries_steps.proofs.running.run_in_order.Goals as goal

pub returns-clause-run : goal.returns-clause-run
returns-clause-run c =
    IfOk-weaker c.done_of.result _ _ (λ done of. is_run_of AreSame false (job_view c.args.job) c.args.requests.now c.args.rows.now c.in_ok-setup.setup c.in_ok-ran.ran done c.in_ok-setup.ensures
    (record { consistent = λ ran. c.runs_are_consistent.ensures c.args.rows.now ran c.are_numbered.ensures; prefix = c.ordered_runs_are_serial.ensures.prefix; serial = c.ordered_runs_are_serial.ensures.landings })
    c.requires.sources c.in_ok-ran.ensures.same c.in_ok-ran.ensures.run of) c.done_of.ensures

pub returns-clause-journals : goal.returns-clause-journals
returns-clause-journals c =
    IfOk-weaker c.done_of.result _ _ (λ done of. journals_of c.in_ok-setup.setup c.args.requests.now c.args.rows.now c.in_ok-ran.ran done c.in_ok-ran.ensures.run of) c.done_of.ensures

pub returns-clause-states : goal.returns-clause-states
returns-clause-states c =
    IfOk-weaker c.done_of.result _ _ (λ done of. states_of c.in_ok-setup.setup c.args.requests.now c.args.rows.now c.in_ok-ran.ran done c.in_ok-ran.ensures.run of) c.done_of.ensures

pub returns-clause-order : goal.returns-clause-order
returns-clause-order c = IfOk-weaker c.done_of.result _ _ (λ done of. rw of.ran_is c.in_ok-ran.ensures.order) c.done_of.ensures
