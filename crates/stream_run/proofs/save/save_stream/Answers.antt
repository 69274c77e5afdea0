use Rattle.std.proofs.Common.{◌≡◌, ◌∙◌, [], ap, refl, subst}
use Rattle.stream_step.specs.declared.stream.Stream.{Stream}
use Rattle.stream_run.specs.Standing.{FileHolds}
use Rattle.stream_run.proofs.GoesLemmas.{goes-save, goes_booked-save, stands-then}
use Rattle.stream_run.proofs.SavedLemmas.{holds_stored}
use Rattle.stream_run.proofs.save.save_stream.Goals as goal

pub saved-requires-clause-stands : goal.saved-requires-clause-stands
saved-requires-clause-stands g c =
    let is = c.in_ok-stream.ensures.stream in
    let goes =
    goes-save c.args.call.now.names c.args.stream c.in_ok-stream.field-0.stream _ _ _
    (ap (λ (s : Stream). s.setup) is) (ap (λ (s : Stream). s.start) is)
    (ap (λ (s : Stream). s.exact) is) c.in_ok-store_save.ensures.whole in
    rw (c.end.ensures.behind, c.end.ensures.names, c.end.ensures.stream)
    (stands-then c.args.call.now.behind c.args.call.now.names [] c.args.stream
    c.in_ok-stream.field-0.stream _ _ c.requires.stands goes)

pub saved-requires-clause-saved : goal.saved-requires-clause-saved
saved-requires-clause-saved g c =
    let held = holds_stored _ _ c.args.call.now.names.save _ c.in_ok-store_save.ensures.whole in
    rw (
      c.end.ensures.names,
      c.end.ensures.stream,
      c.in_ok-stream.ensures.stream,
      c.end.ensures.read,
      c.end.ensures.alerts,
      c.end.ensures.audit,
    )
    (subst (λ text. FileHolds (g.S.Shelf.state c.store_save.new.shelf).files c.args.call.now.names.save
    text) (c.as_slice.ensures ∙ c.in_ok-stream.ensures.text) held)

pub returns-clause-goes : goal.returns-clause-goes
returns-clause-goes g c =
    let is = c.in_ok-stream.ensures.stream in
    goes_booked-save c.args.call.now.names c.args.stream c.in_ok-stream.field-0.stream _ _ _ _ _
    (ap (λ (s : Stream). s.setup) is) (ap (λ (s : Stream). s.start) is)
    (ap (λ (s : Stream). s.exact) is) c.in_ok-store_save.ensures.whole refl refl

pub returns-clause-saved : goal.returns-clause-saved
returns-clause-saved g c =
    let held = holds_stored _ _ c.args.call.now.names.save _ c.in_ok-store_save.ensures.whole in
    rw c.in_ok-stream.ensures.stream
    (subst (λ text. FileHolds (g.S.Shelf.state c.store_save.new.shelf).files c.args.call.now.names.save
    text) (c.as_slice.ensures ∙ c.in_ok-stream.ensures.text) held)
