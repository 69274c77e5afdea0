use Rattle.std.proofs.Common.{subst}
use Rattle.flow_model.specs.Record.{record_view}
use Rattle.flow_model.specs.Run.{IsRun}
use Rattle.flow_model.specs.Setup.{setup_view}
use Rattle.jobs.specs.JobView.{JobView}
use Rattle.jobs.specs.Nodes.{AreFromSources}
use Rattle.fries_steps.specs.SetupFor.{AreSame}
use Rattle.fries_steps.proofs.PartLemmas.{workers_of}
use Rattle.fries_steps.proofs.RunLemmas.{is_run_of}
use Rattle.fries_verify.proofs.audits.audited_run.Goals as goal

pub returns-clause-run : goal.returns-clause-run
returns-clause-run g c = λ ordered job is.
    let setup = c.args.setup in
    let rows = c.args.given.rows.now in
    let ran = c.in_ok-ran.ran in
    let run : IsRun (setup_view setup) rows (record_view ran) =
    rw c.in_ok-start.ensures at c.in_ok-ran.ensures.run in
    is_run_of AreSame ordered job c.args.given.requests.now rows setup ran c.in_ok-done_of.field-0 is
    (record {
      consistent = λ ran. c.runs_are_consistent.ensures rows ran c.are_numbered.ensures;
      prefix = c.ordered_runs_are_serial.ensures.prefix;
      serial = c.ordered_runs_are_serial.ensures.landings;
    })
    (subst (λ (j : JobView). AreFromSources j rows) is.job_is c.requires.sources)
    c.in_ok-ran.ensures.same run c.in_ok-done_of.ensures

pub returns-clause-journals : goal.returns-clause-journals
returns-clause-journals g c =
    (workers_of _ c.args.setup c.args.given.requests.now c.args.given.rows.now c.in_ok-ran.ran
    c.in_ok-done_of.field-0 c.in_ok-ran.ensures.run c.in_ok-done_of.ensures).journals
