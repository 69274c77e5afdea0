use Rattle.std.proofs.Common.{rules, ◌∙◌, ◌∷◌, List, ap, subst, sym}
use Rattle.sink_journal.specs.Audit.{audit_header}
use Rattle.sink_journal.specs.declared.journal.Feed.{Feed}
use Rattle.flow_model.specs.Begin.{at_first}
use Rattle.flow_model.specs.Run.{IsRunSince, ran_as}
use Rattle.flow_model.specs.Setup.{setup_view}
use Rattle.audit_laws.specs.declared.audit.Line.{Line}
use Rattle.audit_laws.specs.Fits.{csv_records}
use Rattle.audit_laws.specs.Verdict.{fields_of}
use Rattle.audit_restore.proofs.CheckLemmas.{is_checked, lines_kept, only_memory}
use Rattle.audit_restore.proofs.PartLemmas.{part_text_fault, untold_states}
use Rattle.audit_restore.proofs.part.rebuild_part.Goals as goal

pub returns-in_err-told-clause-found : goal.returns-in_err-told-clause-found
returns-in_err-told-clause-found c run is fits =
    let f = c.in_err-told.field-0.0 in
    let e = only_memory f (λ ne. c.texts_of_parts_have_no_fault.ensures c.args.start.now c.args.refused.now c.args.bytes.now run f c.counts_are_in_range.ensures c.requires.noted is fits ne c.in_err-told.ensures.fault) in
    search (rules, e)

pub returns-in_err-restored-clause-fault : goal.returns-in_err-restored-clause-fault
returns-in_err-restored-clause-fault c =
    let lines = c.in_ok-told.ensures.lines in
    let found = part_text_fault c.args.start.now (setup_view c.args.setup.now) c.args.setup.now.job.dag.order c.args.refused.now c.args.rows.now (csv_records c.args.bytes.now) lines.0 c.in_ok-told.told lines.1 lines.2 lines.3 lines.4
    c.in_err-restored.field-0.0 c.in_err-restored.ensures.fault in
    search (rules, found)

pub returns-in_err-restored-clause-found : goal.returns-in_err-restored-clause-found
returns-in_err-restored-clause-found c run is fits =
    let f = c.in_err-restored.field-0.0 in
    let lines = c.in_ok-told.ensures.lines in
    let found = part_text_fault c.args.start.now (setup_view c.args.setup.now) c.args.setup.now.job.dag.order c.args.refused.now c.args.rows.now (csv_records c.args.bytes.now) lines.0 c.in_ok-told.told lines.1 lines.2 lines.3 lines.4
    f c.in_err-restored.ensures.fault in
    let e = only_memory f (λ ne. c.texts_of_parts_have_no_fault.ensures c.args.start.now c.args.refused.now c.args.bytes.now run f c.counts_are_in_range.ensures c.requires.noted is fits ne found) in
    search (rules, e)

pub returns-clause-run : goal.returns-clause-run
returns-clause-run c =
    let setup = setup_view c.args.setup.now in
    let lines = c.in_ok-told.ensures.lines in
    let journals = c.in_ok-restored.restored.journals in
    let states = c.in_ok-restored.restored.states in
    let checked = is_checked c.args.start.now setup c.requires.states c.args.rows.now c.in_ok-told.told.journals.items journals states c.in_ok-restored.ensures.finished lines.4.journals_long c.in_ok-restored.ensures.restored in
    subst (λ (f : List Feed). IsRunSince c.args.start.now setup c.args.rows.now (ran_as setup f journals states)) (sym c.in_ok-told.ensures.feeds)
    (c.checked_journals_are_a_run.ensures.sound c.args.start.now c.in_ok-told.told.journals.items journals states checked)

pub returns-clause-fits : goal.returns-clause-fits
returns-clause-fits c =
    let setup = setup_view c.args.setup.now in
    let text = c.args.bytes.now in
    let refused = c.args.refused.now in
    let lines = c.in_ok-told.ensures.lines in
    let told = c.in_ok-told.told in
    let journals = c.in_ok-restored.restored.journals in
    let states = c.in_ok-restored.restored.states in
    let feeds = c.in_ok-told.feeds in
    let checked = is_checked c.args.start.now setup c.requires.states c.args.rows.now told.journals.items journals states c.in_ok-restored.ensures.finished lines.4.journals_long c.in_ok-restored.ensures.restored in
    let kept = lines_kept setup refused (csv_records text) lines.0 told feeds journals (at_first setup).states lines.1 lines.2 (lines.3 ∙ sym c.in_ok-told.ensures.feeds) lines.4
    checked.restored (untold_states setup told.states.items lines.4.states_long c.in_ok-restored.ensures.untold) in
    (c.parts_fit_their_lines.ensures c.args.start.now c.args.rows.now refused text (ran_as setup feeds journals states) (returns-clause-run c)).0
    (lines.1.fields ∙ ap (λ (l : List Line). audit_header ∷ fields_of setup.job l) kept)

pub returns-clause-only : goal.returns-clause-only
returns-clause-only c run is fits =
    let setup = setup_view c.args.setup.now in
    c.texts_of_parts_tell_the_run.ensures c.args.start.now c.args.refused.now c.args.bytes.now (ran_as setup c.in_ok-told.feeds c.in_ok-restored.restored.journals c.in_ok-restored.restored.states) run
    c.counts_are_in_range.ensures c.requires.noted (returns-clause-run c) is (returns-clause-fits c) fits
