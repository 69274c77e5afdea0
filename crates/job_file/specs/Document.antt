-- What is taken from the tree of a TOML document, by its form alone.
use Rattle.std.specs.Prelude.{ℕ, ℤ, List, [], ◌∷◌, Bool, true, ◌&&◌, ◌||◌, Option, Some, None}
use Rattle.std.specs.Prelude.{Result, Ok, Err, ok_or, if◌then◌else◌}
use Rattle.std.specs.List.{list_any}
use Rattle.std.specs.Str.{bytes_eq, is_utf8}
use Rattle.toml.specs.Data.{Data, Items, no_items, item, Members, no_members, member, as_array}
use Rattle.toml.specs.Data.{as_integer, as_str, as_table, get_member}
use Rattle.toml.specs.Parse.{parse_document}
use Rattle.job_file.specs.declared.fault.FormFault.{FormFault}
use Rattle.job_file.specs.declared.fault.FormFault.TheVariants as fault
use Rattle.job_file.specs.declared.fault.Part.{Part}

-- the next step of a reading, where none has failed
abbrev pub and_then : {A B E : Type 0} → Result A E → (A → Result B E) → Result B E
and_then (Err fault) next = Err fault
and_then (Ok x) next = next x

-- the table of a document
unfoldable pub document_of : List ℕ → Result Members FormFault
document_of bytes =
    if is_utf8 bytes then ok_or (parse_document bytes) fault.NotToml else Err fault.NotToml

-- a table has no key but these and those
abbrev pub has_only : List (List ℕ) → List (List ℕ) → Members → Bool
has_only these those no_members = true
has_only these those (member key d ms) =
    (list_any (λ k. bytes_eq k key) these || list_any (λ k. bytes_eq k key) those)
    && has_only these those ms

-- the text that a value is, or a fault of this part
abbrev pub text_of : Part → Data → Result (List ℕ) FormFault
text_of part d = ok_or (as_str d) (fault.Shape part)

-- the whole number that a value is, or a fault of this part
abbrev pub whole_of : Part → Data → Result ℤ FormFault
whole_of part d = ok_or (as_integer d) (fault.Shape part)

-- the array that a value is, or a fault of this part
abbrev pub items_of : Part → Data → Result Items FormFault
items_of part d = ok_or (as_array d) (fault.Shape part)

-- the table that a value is, or a fault of this part
abbrev pub table_of : Part → Data → Result Members FormFault
table_of part d = ok_or (as_table d) (fault.Shape part)

-- the value at a key that is needed
abbrev pub value_of_key : List ℕ → Part → Members → Result Data FormFault
value_of_key key part ms = ok_or (get_member key ms) (fault.Shape part)

-- the text at a key that is needed
abbrev pub text_of_key : List ℕ → Part → Members → Result (List ℕ) FormFault
text_of_key key part ms = and_then (value_of_key key part ms) (text_of part)

-- the whole number at a key that is needed
abbrev pub whole_of_key : List ℕ → Part → Members → Result ℤ FormFault
whole_of_key key part ms = and_then (value_of_key key part ms) (whole_of part)

-- the array at a key that is needed
abbrev pub items_of_key : List ℕ → Part → Members → Result Items FormFault
items_of_key key part ms = and_then (value_of_key key part ms) (items_of part)

-- what is read of a value, or this where there is none
abbrev pub read_or : {A : Type 0} → A → (Data → Result A FormFault) → Option Data
    → Result A FormFault
read_or default read None = Ok default
read_or default read (Some d) = read d

-- the whole number at a key, or this one where there is none
abbrev pub optional_whole_at : List ℕ → Part → ℤ → Members → Result ℤ FormFault
optional_whole_at key part default ms = read_or default (whole_of part) (get_member key ms)

-- the array at a key, or an empty one where there is none
abbrev pub optional_items_at : List ℕ → Part → Members → Result Items FormFault
optional_items_at key part ms = read_or no_items (items_of part) (get_member key ms)

-- one more before a list, or the first fault
abbrev pub item_before : {A : Type 0} → Result A FormFault → Result (List A) FormFault
    → Result (List A) FormFault
item_before (Err fault) later = Err fault
item_before (Ok first) (Err fault) = Err fault
item_before (Ok first) (Ok later) = Ok (first ∷ later)

-- what is read of each item, or the first fault
unfoldable pub all_of : {A : Type 0} → (Data → Result A FormFault) → Items
    → Result (List A) FormFault
all_of read no_items = Ok []
all_of read (item d ds) = item_before (read d) (all_of read ds)
