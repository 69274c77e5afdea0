use Rattle.std.proofs.Common.{◌∙◌, ap, subst, sym}
use Rattle.flow_laws.specs.Later.{HasWholeRows}
use Rattle.flow_model.specs.Record.{record_view}
use Rattle.flow_model.specs.Run.{IsRunSince}
use Rattle.flow_model.specs.Setup.{setup_view}
use Rattle.flow_model.specs.declared.record.RunRecord.{RunRecord}
use Rattle.flow_model.specs.declared.setup.Setup.{Setup}
use Rattle.fries_steps.proofs.PartLemmas.{workers_of}
use Rattle.fries_verify.proofs.audits.audited_later_run.Goals as goal

pub returns-clause-run : goal.returns-clause-run
returns-clause-run g c =
    let start = c.args.start.now in
    let rows = c.args.given.rows.now in
    let of = c.in_ok-done_of.ensures in
    record {
      setup_is = ap (λ (r : RunRecord). r.setup) of.ran_is ∙ c.in_ok-ran.ensures.same;
      run =
          subst (λ (r : RunRecord). IsRunSince start (setup_view c.args.setup) rows (record_view r))
          (sym of.ran_is) c.in_ok-ran.ensures.run;
      rows_are =
          subst (λ (r : RunRecord). HasWholeRows (record_view r)) (sym of.ran_is)
          (c.later_rows_are_whole.ensures.rows start (record_view c.in_ok-ran.ran)
          c.in_ok-ran.ensures.run);
      refused = of.refused ∙ ap (λ (s : Setup). s.judged.refused) c.in_ok-ran.ensures.same;
      count = of.count;
    }

pub returns-clause-journals : goal.returns-clause-journals
returns-clause-journals g c =
    (workers_of c.args.start.now c.args.setup c.args.given.requests.now c.args.given.rows.now
    c.in_ok-ran.ran c.in_ok-done_of.field-0 c.in_ok-ran.ensures.run
    c.in_ok-done_of.ensures).journals
