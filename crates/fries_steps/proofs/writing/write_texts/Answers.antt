use Rattle.std.proofs.Common.{◌≡◌, ◌+◌, ◌∷◌, ◌∙◌, List, ap, drop, inl, inr, refl, subst, sym}
use Rattle.std.specs.Result.{result_err}
use Rattle.std.proofs.lemmas.List.{drop_more}
use Rattle.std.proofs.lemmas.Result.{err_from_is_err_and}
use Rattle.payments.specs.World.{world}
use Rattle.fries_steps.specs.Effects.{FileText}
use Rattle.fries_steps.proofs.writing.write_texts.Goals as goal

pub returns-in_err-store_text : goal.returns-in_err-store_text
returns-in_err-store_text g c =
    let i = c.loop-text.text-index in
    let files : List FileText = c.args.texts.now.files.items in
    let text = c.text-item.result in
    let items : List FileText = c.as_slice-text-items.result.now in
    let here : drop i files ≡ text ∷ drop (i + 1) files = subst (λ (fs : List FileText). drop i fs ≡ text ∷ drop (i + 1) fs) c.as_slice-text-items.ensures.value
    (drop_more items i text c.loop-text-test.true ∙ ap (λ (t : FileText). t ∷ drop (i + 1) items) (sym c.text-item.is)) in
    let shelf = c.store_text.new.shelf in
    let out = c.args.out.now in
    let left = world (g.S.Shelf.state shelf) (g.O.Sink.state out) in
    let fault = err_from_is_err_and c.from_residual.result c.from_residual.ensures.1 in
    let broken = c.in_err-store_text.ensures in
    c.loop-text.invariant left (result_err c.from_residual.result)
    (rw (here, fault.1, fault.2) (inl (record {
      why = c.in_err-store_text.field-0.0;
      answer_is = refl;
      cause = broken.cause;
      files = broken.as_before;
      draft = broken.closed;
      out = refl;
    })))

pub loop-text-preserved : goal.loop-text-preserved
loop-text-preserved g c new answer outcome =
    let i = c.loop-text.text-index in
    let files : List FileText = c.args.texts.now.files.items in
    let text = c.text-item.result in
    let items : List FileText = c.as_slice-text-items.result.now in
    let here : drop i files ≡ text ∷ drop (i + 1) files = subst (λ (fs : List FileText). drop i fs ≡ text ∷ drop (i + 1) fs) c.as_slice-text-items.ensures.value
    (drop_more items i text c.loop-text-test.true ∙ ap (λ (t : FileText). t ∷ drop (i + 1) items) (sym c.text-item.is)) in
    let shelf = c.store_text.new.shelf in
    let out = c.args.out.now in
    let stored = world (g.S.Shelf.state shelf) (g.O.Sink.state out) in
    let whole = c.in_ok-store_text.ensures in
    c.loop-text.invariant new answer
    (rw here (inr (
      stored,
      record { files = whole.whole; faults = whole.counts; draft = whole.closed; out = refl },
      outcome,
    )))
