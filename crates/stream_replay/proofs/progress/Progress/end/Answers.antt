use Rattle.std.proofs.Common.{◌≡◌, ◌∙◌, ◌-◌, ◌∷◌, ℕ, List, ap, drop, length, map, rules, sym, take}
use Rattle.std.proofs.lemmas.List.{drop-map, take_rest}
use Rattle.sink_journal.specs.Audit.{audit_header}
use Rattle.versions.specs.declared.in_order.Refused.{Refused}
use Rattle.audit_fault.specs.declared.fault.AuditFault.TheVariants as audit
use Rattle.audit_laws.specs.Fits.{csv_records}
use Rattle.flow_model.specs.Record.{record_view}
use Rattle.flow_model.specs.Setup.{setup_view}
use Rattle.flow_model.proofs.PlannedLemmas.{has_covers}
use Rattle.fries_lines.specs.Lines.{noted}
use Rattle.savepoint.specs.Parts.{first_of}
use Rattle.savepoint.proofs.CutLemmas.{all_first}
use Rattle.stream_replay.specs.declared.whole.Whole.{Whole}
use Rattle.stream_replay.specs.inner.Progress.{body_of, given_of, start_in, with_all}
use Rattle.stream_replay.proofs.PartLemmas.{fits_of_last, last_of_run, run_of_last}
use Rattle.stream_replay.proofs.progress.Progress.end.Goals as goal

-- the refused requests that are told later, as an audit notes them
later_noted : (whole : Whole) (told : ℕ) (all later seen : List Refused) → all ≡ whole.refused
    → later ≡ take (length all - told) (drop told all) → seen ≡ later
    → map noted seen ≡ drop told whole.noted.items
later_noted whole told all later seen all_are later_are same =
    ap (map noted) (same ∙ (later_are ∙ (take_rest all told ∙ ap (drop told) all_are)))
    ∙ (sym (drop-map noted told whole.refused) ∙ ap (drop told) (sym whole.noted_are))

pub returns-clause-view : goal.returns-clause-view
returns-clause-view c =
    let whole = c.args.whole.now in
    let view = with_all whole (setup_view c.args.self.setup) in
    ap setup_view c.in_ok-ran.ensures.same
    ∙ (c.in_ok-setup.ensures.view
    ∙ (ap (first_of view) c.len.ensures
    ∙ all_first view (has_covers view c.requires.progress.of_whole.planned).one_each))

pub returns-clause-part : goal.returns-clause-part
returns-clause-part c =
    let self = c.args.self in
    let whole = c.args.whole.now in
    let given = given_of whole (setup_view self.setup) in
    let view = with_all whole (setup_view self.setup) in
    let body = body_of c.args.part.now in
    let ran = record_view c.in_ok-ran.ran in
    let view_is : setup_view c.in_ok-setup.setup ≡ given.setup =
    c.in_ok-setup.ensures.view
    ∙ (ap (first_of view) c.len.ensures
    ∙ all_first view (has_covers view c.requires.progress.of_whole.planned).one_each) in
    let refused_is : map noted c.in_ok-setup.setup.judged.refused ≡ drop self.told given.refused =
    later_noted whole self.told c.as_slice-2.result.now c.in_ok-later.later
    c.in_ok-setup.setup.judged.refused c.as_slice-2.ensures c.in_ok-later.ensures
    c.in_ok-setup.ensures.refused in
    let read : csv_records c.as_slice-3.result.now ≡ audit_header ∷ body =
    ap csv_records c.as_slice-3.ensures ∙ c.requires.counted.read in (
      ran,
      last_of_run given (start_in self) body (setup_view c.in_ok-setup.setup)
          (map noted c.in_ok-setup.setup.judged.refused) c.as_slice-3.result.now view_is
          refused_is read ran c.in_ok-ran.ensures.run c.in_ok-ran.ensures.fits,
    )

pub returns-in_err-ran-clause-found : goal.returns-in_err-ran-clause-found
returns-in_err-ran-clause-found c left is =
    let self = c.args.self in
    let whole = c.args.whole.now in
    let given = given_of whole (setup_view self.setup) in
    let view = with_all whole (setup_view self.setup) in
    let body = body_of c.args.part.now in
    let view_is : setup_view c.in_ok-setup.setup ≡ given.setup =
    c.in_ok-setup.ensures.view
    ∙ (ap (first_of view) c.len.ensures
    ∙ all_first view (has_covers view c.requires.progress.of_whole.planned).one_each) in
    let refused_is : map noted c.in_ok-setup.setup.judged.refused ≡ drop self.told given.refused =
    later_noted whole self.told c.as_slice-2.result.now c.in_ok-later.later
    c.in_ok-setup.setup.judged.refused c.as_slice-2.ensures c.in_ok-later.ensures
    c.in_ok-setup.ensures.refused in
    let read : csv_records c.as_slice-3.result.now ≡ audit_header ∷ body =
    ap csv_records c.as_slice-3.ensures ∙ c.requires.counted.read in
    let memory : c.in_err-ran.field-0.0 ≡ audit.NoMemory =
    c.in_err-ran.ensures.found left
    (run_of_last given (start_in self) body (setup_view c.in_ok-setup.setup)
    (map noted c.in_ok-setup.setup.judged.refused) c.as_slice-3.result.now view_is refused_is read
    left is)
    (fits_of_last given (start_in self) body (setup_view c.in_ok-setup.setup)
    (map noted c.in_ok-setup.setup.judged.refused) c.as_slice-3.result.now view_is refused_is read
    left is) in
    search (rules, memory)
