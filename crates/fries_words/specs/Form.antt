-- The words after a command, taken apart.
use Rattle.std.specs.Prelude.{ℕ, Bool, false, not, List, [], ◌∷◌, ◌++◌, ◌&&◌, ◌==◌, Option, None}
use Rattle.std.specs.Prelude.{Some, option_map, option_and_then, find, take, drop, length, codes}
use Rattle.std.specs.Prelude.{if◌then◌else◌}
use Rattle.std.specs.List.{list_any}
use Rattle.std.specs.Str.{bytes_eq}

-- a text: the list of its bytes
abbrev pub Text : Type 0
Text = List ℕ

-- an option with a value: as a word, as `--threads`, and before its value, as `--threads=`
pub record ValueOption : Type 0 where
  pub id : Text
  pub word : Text
  pub start : Text

-- an option without one, and its word
pub record Flag : Type 0 where
  pub id : Text
  pub word : Text

-- what may follow a command: its names in order, names after them that may be left out, its options
-- with a value, and its flags
pub record Form : Type 0 where
  pub names : List Text
  pub extra : List Text
  pub options : List ValueOption
  pub flags : List Flag

-- what the words so far are
pub record Parts : Type 0 where
  -- the names that are still to come
  pub names : List Text
  -- those that may still come after them
  pub extra : List Text
  -- the option whose value the next word is
  pub waiting : Option Text
  -- what was found: a value for a name or an option
  pub found : List (Text × Text)

-- nothing was found yet
abbrev pub no_parts : Form → Parts
no_parts form =
    record { names = form.names; extra = form.extra; waiting = None; found = [] }

-- a name or a value isn't empty and doesn't begin with a dash
abbrev pub is_plain_word : Text → Bool
is_plain_word [] = false
is_plain_word (byte ∷ rest) = not (byte == 45)

-- there is a value for the name or option
abbrev pub is_found : Text → List (Text × Text) → Bool
is_found id found = list_any (λ pair. bytes_eq pair.0 id) found

-- the value for the name or option
abbrev pub value_of : List (Text × Text) → Text → Option Text
value_of found id = option_map (λ pair. pair.1) (find (λ pair. bytes_eq pair.0 id) found)

-- the word is the option, and its value is the next word
abbrev pub is_option : Text → ValueOption → Bool
is_option word option = bytes_eq word option.word

-- the word is the option with its value
abbrev pub has_start : Text → ValueOption → Bool
has_start word option = bytes_eq (take (length option.start) word) option.start

-- the word is the flag
abbrev pub is_flag : Text → Flag → Bool
is_flag word flag = bytes_eq word flag.word

-- the parts with a value for an option or a flag that has none yet
abbrev pub with_value : Parts → Text → Text → Option Parts
with_value parts id value =
    if not (is_found id parts.found) && is_plain_word value then
    Some (record {
      names = parts.names;
      extra = parts.extra;
      waiting = None;
      found = parts.found ++ (id, value) ∷ [];
    })
    else None

-- the parts with the next of the names that may be left out
abbrev pub with_extra : Parts → List Text → Text → Option Parts
with_extra parts [] word = None
with_extra parts (id ∷ extra) word =
    if not (is_found id parts.found) && is_plain_word word then
    Some (record {
      names = [];
      extra = extra;
      waiting = None;
      found = parts.found ++ (id, word) ∷ [];
    })
    else None

-- the parts with the next name
abbrev pub with_name : Parts → List Text → Text → Option Parts
with_name parts [] word = with_extra parts parts.extra word
with_name parts (id ∷ names) word =
    if not (is_found id parts.found) && is_plain_word word then
    Some (record {
      names = names;
      extra = parts.extra;
      waiting = None;
      found = parts.found ++ (id, word) ∷ [];
    })
    else None

-- a word that is no option by itself: an option with its value, or the next name
abbrev pub with_start : Parts → Option ValueOption → Text → Option Parts
with_start parts (Some option) word = with_value parts option.id (drop (length option.start) word)
with_start parts None word = with_name parts parts.names word

-- a word that isn't followed by a value: a flag, whose value is `true`, or another word
abbrev pub with_flag : Form → Parts → Option Flag → Text → Option Parts
with_flag form parts (Some flag) word = with_value parts flag.id (codes "true")
with_flag form parts None word = with_start parts (find (has_start word) form.options) word

-- a word where no value is waited for: an option, or another word
abbrev pub with_option : Form → Parts → Option ValueOption → Text → Option Parts
with_option form parts (Some option) word = Some (record parts { waiting = Some option.id })
with_option form parts None word = with_flag form parts (find (is_flag word) form.flags) word

-- the parts with one more word
abbrev pub with_word : Form → Parts → Option Text → Text → Option Parts
with_word form parts (Some id) word = with_value parts id word
with_word form parts None word = with_option form parts (find (is_option word) form.options) word

-- what was found, if no name and no value is missing
abbrev pub at_end : List Text → Option Text → List (Text × Text) → Option (List (Text × Text))
at_end [] None found = Some found
at_end [] (Some id) found = None
at_end (id ∷ names) waiting found = None

-- what is found in the words after these parts
unfoldable pub found_after : Form → Parts → List Text → Option (List (Text × Text))
found_after form parts [] = at_end parts.names parts.waiting parts.found
found_after form parts (word ∷ words) =
    option_and_then (λ next. found_after form next words) (with_word form parts parts.waiting word)

-- What is found in the words after a command, if they have its form. Each option stands at most
-- once, at any place, as two words or as one.
abbrev pub found_in_words : Form → List Text → Option (List (Text × Text))
found_in_words form words = found_after form (no_parts form) words
