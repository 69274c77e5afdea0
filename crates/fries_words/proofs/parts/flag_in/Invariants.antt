use Rattle.std.proofs.Common.{◌≡◌, drop}
use Rattle.std.specs.Prelude.{find, map}
use Rattle.fries_words.specs.Form.{is_flag}
use Rattle.fries_words.specs.Views.{flag_view}
use Rattle.fries_words.proofs.parts.flag_in.Given as goal

abbrev pub invariant-loop-flag : goal.invariant-loop-flag
invariant-loop-flag l = find (is_flag l.word) (map flag_view (drop l.flag-index l.flags)) ≡ find (is_flag l.word) (map flag_view l.flags)
