use Rattle.std.proofs.Common.{◌≡◌, drop}
use Rattle.fries_words.specs.Form.{found_after, found_in_words}
use Rattle.fries_words.specs.Views.{form_view, parts_view, texts}
use Rattle.fries_words.proofs.parts.has_form.Given as goal

abbrev pub invariant-loop-word : goal.invariant-loop-word
invariant-loop-word l = found_after (form_view l.form) (parts_view l.parts) (texts (drop l.word-index l.words)) ≡ found_in_words (form_view l.form) (texts l.words)
