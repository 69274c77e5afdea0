-- The parts of the program's words, as its code holds them.
use Rattle.std.specs.Prelude.{Bool, true, false, List, drop, map, Option, Some, None, option_map}
use Rattle.std.specs.Prelude.{◌≡◌}
use Rattle.std.specs.Borrow.{Bor}
use Rattle.fries_words.specs.Form.{Flag, Form, Parts, Text, ValueOption}
use Rattle.fries_words.specs.declared.form.Flag.{Flag as FlagIs}
use Rattle.fries_words.specs.declared.form.Form.{Form as FormIs}
use Rattle.fries_words.specs.declared.form.ValueOption.{ValueOption as ValueOptionIs}
use Rattle.fries_words.specs.declared.parts.Parts.{Parts as PartsAre}

abbrev pub texts : List (Bor Text) → List Text
texts = map (λ text. text.now)

abbrev pub option_view : ValueOptionIs → ValueOption
option_view option = record { id = option.id.now; word = option.word.now; start = option.start.now }

abbrev pub flag_view : FlagIs → Flag
flag_view flag = record { id = flag.id.now; word = flag.word.now }

abbrev pub form_view : FormIs → Form
form_view form = record {
  names = texts form.names.now;
  extra = texts form.extra.now;
  options = map option_view form.options.now;
  flags = map flag_view form.flags.now;
}

abbrev pub pair_view : Bor Text × Bor Text → Text × Text
pair_view pair = (pair.0.now, pair.1.now)

abbrev pub parts_view : PartsAre → Parts
parts_view parts = record {
  names = texts (drop parts.next parts.names.now);
  extra = texts (drop parts.next_extra parts.extra.now);
  waiting = option_map (λ id. id.now) parts.waiting;
  found = map pair_view parts.found.items;
}

-- the parts after a word that may stand there; none if it may not
abbrev pub if_taken : Bool → Parts → Option Parts → Type 0
if_taken true parts made = made ≡ Some parts
if_taken false parts made = made ≡ None
