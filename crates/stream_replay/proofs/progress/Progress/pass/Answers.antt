use Rattle.std.proofs.Common.{◌≡◌, ◌∙◌, ◌∷◌, List, ap, rules, subst, sym, take}
use Rattle.std.specs.Prelude.{All, slice_range}
use Rattle.std.proofs.lemmas.List.Elements.{All-drop, All-take}
use Rattle.jobs.specs.Job.{job_view}
use Rattle.jobs.specs.Nodes.{AreFromSources, IsSourceOf}
use Rattle.jobs.specs.declared.job.Job.{Job}
use Rattle.tuple_trace.specs.declared.row.Row.{Row}
use Rattle.sink_journal.specs.Audit.{audit_header}
use Rattle.sink_journal.specs.declared.audit.Noted.{Noted}
use Rattle.audit_fault.specs.Noting.{IsNoted}
use Rattle.audit_laws.specs.Fits.{csv_records}
use Rattle.flow_model.specs.Record.{record_view}
use Rattle.flow_model.specs.Setup.{setup_view}
use Rattle.savepoint.specs.Parts.{first_of}
use Rattle.stream_replay.specs.InParts.{refused_told, row_in, told_up_to, turned_in}
use Rattle.stream_replay.specs.inner.Progress.{body_of, given_of, start_in, with_all}
use Rattle.stream_replay.proofs.PartLemmas.{part_of, starts}
use Rattle.stream_replay.proofs.progress.Progress.pass.Goals as goal

pub returns-in_err-fed-clause-found : goal.returns-in_err-fed-clause-found
returns-in_err-fed-clause-found c left is = search rules

pub check_part-requires-clause-sources : goal.check_part-requires-clause-sources
check_part-requires-clause-sources c =
    let self = c.args.self in
    let rows : List Row = c.args.whole.now.rows.now in
    let row = c.extent-extent.result.row in
    subst (λ (j : Job). AreFromSources (job_view j) c.in_ok-fed.fed)
    (sym c.in_ok-setup.ensures.job)
    (subst (λ (l : List Row). AreFromSources (job_view self.setup.job) l)
    (sym c.in_ok-fed.ensures)
    (All-take (λ (r : Row). IsSourceOf (job_view self.setup.job) r.source) row rows
    c.requires.progress.of_whole.sources))

pub check_part-requires-clause-noted : goal.check_part-requires-clause-noted
check_part-requires-clause-noted c =
    let noted : List Noted = c.args.whole.now.noted.items in
    let all : All IsNoted c.deref.result.now =
    subst (All IsNoted) (sym c.deref.ensures.value) c.args.whole.now.each in
    All-take IsNoted _ _ (All-drop IsNoted c.args.self.told c.deref.result.now all)

pub returns-clause-part : goal.returns-clause-part
returns-clause-part c =
    let self = c.args.self in
    let whole = c.args.whole.now in
    let given = given_of whole (setup_view self.setup) in
    let start = start_in self in
    let body = body_of c.args.part.now in
    let extent = c.extent-extent.result in
    let ran = record_view c.in_ok-ran.ran in
    let refused : List Noted = slice_range c.deref.result.now self.told extent.told in
    let view_is :
    setup_view c.in_ok-setup.setup ≡ first_of given.setup (turned_in given start body) =
    c.in_ok-setup.ensures.view
    ∙ ap (first_of (with_all whole (setup_view self.setup))) c.extent-extent.ensures.turned in
    let fed_is : c.in_ok-fed.fed ≡ take (row_in given start body) given.rows =
    c.in_ok-fed.ensures ∙ ap (λ k. take k whole.rows.now) c.extent-extent.ensures.row in
    let refused_is : refused ≡ refused_told given start body =
    ap (λ (l : List Noted). slice_range l self.told extent.told) c.deref.ensures.value
    ∙ ap (λ k. slice_range whole.noted.items self.told k) c.extent-extent.ensures.told in
    let read : csv_records c.as_slice.result.now ≡ audit_header ∷ body =
    ap csv_records c.as_slice.ensures ∙ c.requires.counted.read in (
      ran,
      part_of given start body (setup_view c.in_ok-setup.setup) c.in_ok-fed.fed refused
          c.as_slice.result.now view_is fed_is refused_is read ran c.in_ok-ran.ensures.run
          c.in_ok-ran.ensures.fits,
      starts extent.row extent.turned extent.told c.in_ok-ran.ran.states (row_in given start body)
          (turned_in given start body) (told_up_to given start body) c.extent-extent.ensures.row
          c.extent-extent.ensures.turned c.extent-extent.ensures.told,
    )
