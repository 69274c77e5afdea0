use Rattle.std.proofs.Common.{◌≡◌, drop}
use Rattle.std.specs.Prelude.{find, map}
use Rattle.fries_words.specs.Form.{has_start}
use Rattle.fries_words.specs.Views.{option_view}
use Rattle.fries_words.proofs.parts.start_in.Given as goal

abbrev pub invariant-loop-option : goal.invariant-loop-option
invariant-loop-option l = find (has_start l.word) (map option_view (drop l.option-index l.options)) ≡ find (has_start l.word) (map option_view l.options)
