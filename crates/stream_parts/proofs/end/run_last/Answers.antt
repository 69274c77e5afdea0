use Rattle.std.proofs.Common.{◌≡◌, ◌∙◌, List, ap, append-nil, subst, sym}
use Rattle.std.proofs.lemmas.Result.{IfOk-weaker}
use Rattle.jobs.specs.Job.{job_view}
use Rattle.jobs.specs.JobView.{JobView}
use Rattle.jobs.specs.Nodes.{AreFromSources}
use Rattle.tuple_trace.specs.FeedRows.{blanks}
use Rattle.tuple_trace.specs.declared.row.Row.{Row}
use Rattle.flow_model.specs.SetupView.{SetupView}
use Rattle.stream_step.specs.declared.stream.Stream.{Stream}
use Rattle.stream_parts.proofs.EndLemmas.{last_journals, last_on, last_states, sources_blank}
use Rattle.stream_parts.proofs.end.run_last.Goals as goal

pub run_from-requires-clause-rows : goal.run_from-requires-clause-rows
run_from-requires-clause-rows g c κs within =
    let job_is : job_view c.in_ok-setup.field-0.setup.job ≡ job_view c.args.stream.setup.job =
    ap (λ (s : SetupView). s.job) c.in_ok-setup.ensures.followed.extended_is in
    let rows_are : c.behind-rows.result ≡ blanks c.args.source c.args.stream.start.row =
    c.behind-rows.ensures ∙ (append-nil _ ∙ ap (λ (s : Stream). blanks c.args.source s.start.row)
    c.stream.view_is) in
    subst (λ (r : List Row). AreFromSources (job_view c.in_ok-setup.field-0.setup.job) r)
    (sym rows_are)
    (subst (λ (j : JobView). AreFromSources j (blanks c.args.source c.args.stream.start.row))
    (sym job_is)
    (sources_blank (job_view c.args.stream.setup.job) c.args.source c.args.stream.start.row
    c.requires.source))

pub returns-clause-run : goal.returns-clause-run
returns-clause-run g c =
    let rows_are : c.behind-rows.result ≡ blanks c.args.source c.args.stream.start.row =
    c.behind-rows.ensures ∙ (append-nil _ ∙ ap (λ (s : Stream). blanks c.args.source s.start.row)
    c.stream.view_is) in
    IfOk-weaker c.record.result _ _
    (λ ran is. last_on c.args.stream c.args.source c.in_ok-setup.field-0.setup
    c.in_ok-flown.flown.setup c.behind-rows.result c.in_ok-flown.flown.feeds
    c.in_ok-flown.flown.crew.items ran
    c.requires.source rows_are c.are_numbered.ensures c.in_ok-setup.ensures.followed
    c.in_ok-flown.ensures.setup (rw c.in_ok-setup.ensures.start at c.in_ok-flown.ensures.run) is)
    c.record.ensures

pub returns-clause-journals : goal.returns-clause-journals
returns-clause-journals g c =
    let rows_are : c.behind-rows.result ≡ blanks c.args.source c.args.stream.start.row =
    c.behind-rows.ensures ∙ (append-nil _ ∙ ap (λ (s : Stream). blanks c.args.source s.start.row)
    c.stream.view_is) in
    IfOk-weaker c.record.result _ _
    (λ ran is. last_journals c.args.stream c.args.source c.in_ok-setup.field-0.setup
    c.in_ok-flown.flown.setup c.behind-rows.result c.in_ok-flown.flown.feeds
    c.in_ok-flown.flown.crew.items ran
    c.requires.source rows_are c.are_numbered.ensures c.in_ok-setup.ensures.followed
    c.in_ok-flown.ensures.setup (rw c.in_ok-setup.ensures.start at c.in_ok-flown.ensures.run) is)
    c.record.ensures

pub returns-clause-states : goal.returns-clause-states
returns-clause-states g c =
    let rows_are : c.behind-rows.result ≡ blanks c.args.source c.args.stream.start.row =
    c.behind-rows.ensures ∙ (append-nil _ ∙ ap (λ (s : Stream). blanks c.args.source s.start.row)
    c.stream.view_is) in
    IfOk-weaker c.record.result _ _
    (λ ran is. last_states c.args.stream c.args.source c.in_ok-setup.field-0.setup
    c.in_ok-flown.flown.setup c.behind-rows.result c.in_ok-flown.flown.feeds
    c.in_ok-flown.flown.crew.items ran
    c.requires.source rows_are c.are_numbered.ensures c.in_ok-setup.ensures.followed
    c.in_ok-flown.ensures.setup (rw c.in_ok-setup.ensures.start at c.in_ok-flown.ensures.run) is)
    c.record.ensures
