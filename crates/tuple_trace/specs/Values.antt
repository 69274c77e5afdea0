-- How fields are read.
use Rattle.std.specs.Prelude.{ℕ, ℤ, pos, List, [], Option, Some, None}
use Rattle.tuple_trace.specs.declared.value.Value.{Value}
use Rattle.tuple_trace.specs.declared.value.Value.TheVariants as value

-- a field read as a number: 0 where it is none
abbrev pub as_number : Option Value → ℤ
as_number (Some (value.Num number)) = number
as_number (Some (value.Text text)) = pos 0
as_number None = pos 0

-- a field read as a text: empty where it is none
abbrev pub as_text : Option Value → List ℕ
as_text (Some (value.Text text)) = text
as_text (Some (value.Num number)) = []
as_text None = []
