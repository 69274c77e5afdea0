-- Values as text.
use Rattle.std.specs.Prelude.{ℕ, ◌/◌, ◌%◌, ℤ, List, [], ◌++◌, Option, Some, None, unsigned_abs, decimal, codes, if◌then◌else◌}
use Rattle.std.specs.Fmt.{signed_decimal}
use Rattle.std.specs.Int.{is_negative}
use Rattle.jobs.specs.declared.column.ColumnKind.{ColumnKind}
use Rattle.jobs.specs.declared.column.ColumnKind.TheVariants as kind
use Rattle.tuple_trace.specs.Values.{as_number, as_text}
use Rattle.tuple_trace.specs.declared.value.Value.{Value}

-- a number of hundredths: the whole part, a point and two digits
abbrev pub hundredths : ℕ → List ℕ
hundredths n = decimal (n / 100) ++ codes "." ++ decimal (n / 10 % 10) ++ decimal (n % 10)

-- an amount of cents
abbrev pub cents_of : ℤ → List ℕ
cents_of amount = (if is_negative amount then codes "-" else []) ++ hundredths (unsigned_abs amount)

-- a field, as a column of this kind prints it
abbrev pub printed : ColumnKind → Option Value → List ℕ
printed kind.Text field = as_text field
printed kind.Number field = signed_decimal (as_number field)
printed kind.Cents field = cents_of (as_number field)

-- what stands in a column that is printed by this kind, or left empty
abbrev pub cell : Option ColumnKind → Option Value → List ℕ
cell None field = []
cell (Some kind) field = printed kind field
