use Rattle.std.proofs.Common.{◌∙◌, None, Some, ap, is_some, sym}
use Rattle.fries_words.specs.Views.{form_view, parts_view}
use Rattle.fries_words.proofs.FormLemmas.{found_after-end, found_after-more, no_text}
use Rattle.fries_words.proofs.parts.has_form.Goals as goal

pub returns-then-not-branch : goal.returns-then-not-branch
returns-then-not-branch c =
    let made = rw c.if-not-branch.true at c.in_ok-take.ensures in
    ap is_some (sym (found_after-more (form_view c.args.form.now) (parts_view c.loop-word.parts) c.args.words.now c.loop-word.word-index no_text c.as_bytes.result.now None c.loop-word-test.true c.as_bytes.ensures.value made) ∙ c.loop-word.invariant)

pub loop-word-preserved : goal.loop-word-preserved
loop-word-preserved c =
    let made = rw c.if-not-branch.false at c.in_ok-take.ensures in
    sym (found_after-more (form_view c.args.form.now) (parts_view c.loop-word.parts) c.args.words.now c.loop-word.word-index no_text c.as_bytes.result.now (Some (parts_view c.take.new.self)) c.loop-word-test.true c.as_bytes.ensures.value made)
    ∙ c.loop-word.invariant

pub returns : goal.returns
returns c = c.are_whole.ensures ∙ ap is_some (sym (found_after-end (form_view c.args.form.now) (parts_view c.loop-word.parts) c.args.words.now c.loop-word.word-index c.loop-word-test.false) ∙ c.loop-word.invariant)
