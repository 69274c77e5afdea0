use Rattle.std.proofs.Common.{◌≡◌, ◌∙◌, ◌++◌, IsTrue, List, ap, arith, map, nat_le, subst}
use Rattle.std.proofs.Common.{sym}
use Rattle.std.specs.List.{list_all}
use Rattle.jobs.specs.Job.{job_view}
use Rattle.jobs.specs.JobView.{JobView}
use Rattle.jobs.specs.Nodes.{AreFromSources}
use Rattle.tuple_trace.specs.FeedRows.{AreRowsAfter, blanks}
use Rattle.tuple_trace.specs.Rows.{AreRows}
use Rattle.tuple_trace.specs.declared.row.Row.{Row}
use Rattle.versions.specs.Judged.{AreAccepted}
use Rattle.versions.specs.declared.request.Request.{Request}
use Rattle.flow_model.specs.Planned.{IsFollowed}
use Rattle.flow_model.specs.Setup.{setup_view}
use Rattle.flow_model.specs.SetupView.{SetupView}
use Rattle.flow_model.specs.declared.record.RunRecord.{RunRecord}
use Rattle.flow_model.specs.declared.setup.Setup.{Setup}
use Rattle.flow_model.proofs.WorkerListLemmas.{length-workers_from}
use Rattle.stream_step.specs.Parts.{due_in}
use Rattle.stream_step.specs.Pending.{SplitWithin, lifted}
use Rattle.stream_step.specs.declared.stream.Stream.{Stream}
use Rattle.stream_run.proofs.PartLemmas.{sources_fed}
use Rattle.flow_engine.proofs.FlownLemmas.{run_since}
use Rattle.stream_run.proofs.PartRunLemmas.{run_on}
use Rattle.stream_run.proofs.part.run_part.Goals as goal

pub behind-rows-requires-clause-numbered : goal.behind-rows-requires-clause-numbered
behind-rows-requires-clause-numbered g c =
    subst (λ (s : Stream). AreRowsAfter s.start.row c.args.rows.now)
    (sym c.stream.view_is) c.requires.numbered

pub run_from-requires-clause-rows : goal.run_from-requires-clause-rows
run_from-requires-clause-rows g c κs within =
    let job_is : job_view c.in_ok-setup.field-0.setup.job ≡ job_view c.args.stream.setup.job =
    ap (λ (s : SetupView). s.job) c.in_ok-setup.ensures.followed.extended_is in
    let rows_are : c.behind-rows.result ≡ blanks c.args.source c.args.stream.start.row
    ++ c.args.rows.now =
    c.behind-rows.ensures ∙ ap (λ (s : Stream). blanks c.args.source s.start.row ++ c.args.rows.now)
    c.stream.view_is in
    subst (λ (r : List Row). AreFromSources (job_view c.in_ok-setup.field-0.setup.job) r)
    (sym rows_are)
    (subst (λ (j : JobView). AreFromSources j
    (blanks c.args.source c.args.stream.start.row ++ c.args.rows.now)) (sym job_is)
    (sources_fed (job_view c.args.stream.setup.job) c.args.source c.args.stream.start.row
    c.args.rows.now c.requires.source c.requires.sources))

pub invariant_of-result : goal.invariant_of-result
invariant_of-result g c =
    let part = c.in_ok-setup.field-0 in
    let same : c.in_ok-ran.ran.setup ≡ c.in_ok-setup.field-0.setup =
    ap (λ (r : RunRecord). r.setup) c.in_ok-ran.ensures ∙ c.in_ok-flown.ensures.setup in
    let since =
    run_since _ c.in_ok-setup.field-0.setup c.in_ok-flown.flown.setup c.behind-rows.result
    c.in_ok-flown.flown.feeds c.in_ok-flown.flown.crew.items c.in_ok-ran.ran
    c.in_ok-flown.ensures.setup c.in_ok-flown.ensures.run c.in_ok-ran.ensures in
    record {
      due = subst (λ (s : Setup). IsTrue (list_all
          (λ (request : Request). nat_le request.after part.last) s.judged.accepted))
          (sym same) part.due;
      accepted =
          subst (λ (s : Setup). AreAccepted (job_view s.job)
          (s.judged.accepted ++ map (lifted part.last) part.pending)) (sym same) part.accepted;
      splits = subst (λ (s : Setup). SplitWithin s.splits part.pending) (sym same) part.splits;
      states = since.run.one_state_each;
      journals =
          omega (
            arith,
            since.run.one_journal_each,
            length-workers_from 0 0
                c.in_ok-ran.ran.setup.job.nodes,
          );
    }

pub returns-clause-run : goal.returns-clause-run
returns-clause-run g c =
    let same : c.in_ok-ran.ran.setup ≡ c.in_ok-setup.field-0.setup =
    ap (λ (r : RunRecord). r.setup) c.in_ok-ran.ensures ∙ c.in_ok-flown.ensures.setup in
    let rows_are : c.behind-rows.result ≡ blanks c.args.source c.args.stream.start.row
    ++ c.args.rows.now =
    c.behind-rows.ensures ∙ ap (λ (s : Stream). blanks c.args.source s.start.row ++ c.args.rows.now)
    c.stream.view_is in
    let since =
    run_since _ c.in_ok-setup.field-0.setup c.in_ok-flown.flown.setup c.behind-rows.result
    c.in_ok-flown.flown.feeds c.in_ok-flown.flown.crew.items c.in_ok-ran.ran
    c.in_ok-flown.ensures.setup c.in_ok-flown.ensures.run c.in_ok-ran.ensures in
    let followed =
    subst (λ k. IsFollowed (setup_view c.args.stream.setup)
    (map (lifted c.args.stream.start.row) (due_in c.args.stream k))
    (setup_view c.in_ok-setup.field-0.setup)) (sym c.in_ok-setup.ensures.last)
    c.in_ok-setup.ensures.followed in
    run_on c.args.stream (due_in c.args.stream c.in_ok-setup.field-0.last) c.args.source
    c.args.rows.now c.in_ok-setup.field-0.setup c.in_ok-ran.ran
    (subst (λ (r : List Row). AreRows r) rows_are c.are_numbered.ensures)
    (sources_fed (job_view c.args.stream.setup.job) c.args.source c.args.stream.start.row
    c.args.rows.now c.requires.source c.requires.sources) followed same
    (rw (c.in_ok-setup.ensures.start, rows_are) at since)
