use Rattle.std.proofs.Common.{refl, subst, sym}
use Rattle.std.proofs.lemmas.Result.{IfOk-weaker}
use Rattle.stream_law.specs.Border.{AreExactAfter}
use Rattle.flow_model.specs.Record.{record_view}
use Rattle.flow_model.specs.Run.{IsRun}
use Rattle.flow_model.specs.Setup.{setup_view}
use Rattle.flow_model.specs.SetupView.{SetupView}
use Rattle.flow_model.specs.declared.record.RunRecord.{RunRecord}
use Rattle.jobs.specs.Job.{job_view}
use Rattle.fries_steps.specs.SetupFor.{AreSame}
use Rattle.fries_steps.proofs.RunLemmas.{is_run_of, journals_of, states_of}
use Rattle.fries_call.proofs.ExactLemmas.{setup_seen}
use Rattle.fries_call.proofs.exact.run_with_borders.Goals as goal

pub returns-clause-run : goal.returns-clause-run
returns-clause-run g c =
    let rows = c.args.rows.now in
    let ran = c.in_ok-ran.ran in
    let is =
    setup_seen c.args.ordered (job_view c.args.job) c.args.requests.now c.in_ok-setup.setup ran.setup
    c.in_ok-setup.ensures c.in_ok-ran.ensures.view c.in_ok-ran.ensures.refused in
    let run : IsRun (setup_view ran.setup) rows (record_view ran) =
    subst (λ (v : SetupView). IsRun v rows (record_view ran)) (sym c.in_ok-ran.ensures.view)
    c.in_ok-ran.ensures.run in
    IfOk-weaker c.done_of.result _ _ (λ done of.
    is_run_of AreSame c.args.ordered (job_view c.args.job) c.args.requests.now rows ran.setup ran
    done is
    (record {
      consistent = λ ran. c.runs_are_consistent.ensures rows ran c.are_numbered.ensures;
      prefix = c.ordered_runs_are_serial.ensures.prefix;
      serial = c.ordered_runs_are_serial.ensures.landings;
    })
    c.requires.sources refl run of) c.done_of.ensures

pub returns-clause-exact : goal.returns-clause-exact
returns-clause-exact g c =
    let rows = c.args.rows.now in
    let ran = c.in_ok-ran.ran in
    IfOk-weaker c.done_of.result _ _ (λ done of.
    subst (λ (r : RunRecord). AreExactAfter 0
    (record { setup = setup_view r.setup; rows = rows; ran = record_view r })) (sym of.ran_is)
    (subst (λ (v : SetupView). AreExactAfter 0
    (record { setup = v; rows = rows; ran = record_view ran })) (sym c.in_ok-ran.ensures.view)
    c.in_ok-ran.ensures.exact)) c.done_of.ensures

pub returns-clause-journals : goal.returns-clause-journals
returns-clause-journals g c =
    let rows = c.args.rows.now in
    let ran = c.in_ok-ran.ran in
    let run : IsRun (setup_view ran.setup) rows (record_view ran) =
    subst (λ (v : SetupView). IsRun v rows (record_view ran)) (sym c.in_ok-ran.ensures.view)
    c.in_ok-ran.ensures.run in
    IfOk-weaker c.done_of.result _ _ (λ done of.
    journals_of ran.setup c.args.requests.now rows ran done run of) c.done_of.ensures

pub returns-clause-states : goal.returns-clause-states
returns-clause-states g c =
    let rows = c.args.rows.now in
    let ran = c.in_ok-ran.ran in
    let run : IsRun (setup_view ran.setup) rows (record_view ran) =
    subst (λ (v : SetupView). IsRun v rows (record_view ran)) (sym c.in_ok-ran.ensures.view)
    c.in_ok-ran.ensures.run in
    IfOk-weaker c.done_of.result _ _ (λ done of.
    states_of ran.setup c.args.requests.now rows ran done run of) c.done_of.ensures
