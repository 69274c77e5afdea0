-- What becomes of counts, as a request writes it.
use Rattle.std.specs.Prelude.{ℕ, ℤ, List, codes, Option, None, Some, Result, Ok, Err, if◌then◌else◌}
use Rattle.std.specs.Str.{bytes_eq}
use Rattle.toml.specs.Data.{Data, Items, no_items, item, as_str}
use Rattle.keyed_state.specs.declared.carry.Carry.{Carry}
use Rattle.keyed_state.specs.declared.carry.Carry.TheVariants as carry
use Rattle.job_file.specs.declared.fault.FormFault.{FormFault}
use Rattle.job_file.specs.declared.fault.FormFault.TheVariants as fault
use Rattle.job_file.specs.declared.fault.Part.TheVariants as part
use Rattle.job_file.specs.Document.{and_then, items_of, text_of, whole_of}

-- the carry of a word alone
abbrev pub carry_named : List ℕ → Result Carry FormFault
carry_named word =
    if bytes_eq word (codes "keep") then Ok carry.Keep else
    if bytes_eq word (codes "reset") then Ok carry.Reset else Err (fault.Shape part.Carry)

-- the next step, where the text is this word
abbrev pub on_word : {A : Type 0} → List ℕ → List ℕ → Result A FormFault → Result A FormFault
on_word word text next = if bytes_eq text word then next else Err (fault.Shape part.Carry)

-- the carry that scales by the first number over the second
abbrev pub scale_by : ℤ → ℤ → Result Carry FormFault
scale_by by over = Ok (carry.Scale by over)

-- multiplied by the first number and divided by the second
abbrev pub scale_of : Data → Data → Data → Result Carry FormFault
scale_of word by over =
    and_then (text_of part.Carry word) (λ text.
    on_word (codes "scale") text (
    and_then (whole_of part.Carry by) (λ p.
    and_then (whole_of part.Carry over) (scale_by p))))

-- forgotten below a number
abbrev pub below_of : Data → Data → Result Carry FormFault
below_of word least =
    and_then (text_of part.Carry word) (λ text.
    on_word (codes "below") text (
    and_then (whole_of part.Carry least) (λ n. Ok (carry.DropBelow n))))

-- the carry of a word with numbers
abbrev pub carry_from : Items → Result Carry FormFault
carry_from (item word (item by (item over no_items))) = scale_of word by over
carry_from (item word (item least no_items)) = below_of word least
carry_from _ = Err (fault.Shape part.Carry)

-- a word is looked at by itself, and anything else as an array
abbrev pub carry_by : Option (List ℕ) → Data → Result Carry FormFault
carry_by (Some word) d = carry_named word
carry_by None d = and_then (items_of part.Carry d) carry_from

-- the carry that a value spells: a word alone, or an array with numbers
abbrev pub carry_of : Data → Result Carry FormFault
carry_of d = carry_by (as_str d) d
