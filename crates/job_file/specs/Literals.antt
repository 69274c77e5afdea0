-- Literals and operands.
use Rattle.std.specs.Prelude.{ℕ, ℤ, List, Option, None, Some, Result, Ok, Err}
use Rattle.toml.specs.Data.{Data, as_integer, as_str}
use Rattle.tuple_trace.specs.declared.value.Value.{Value}
use Rattle.tuple_trace.specs.declared.value.Value.TheVariants as value
use Rattle.jobs.specs.declared.column.Column.{Column}
use Rattle.jobs.specs.declared.func.Operand.{Operand}
use Rattle.jobs.specs.declared.func.Operand.TheVariants as operand
use Rattle.job_file.specs.declared.fault.FormFault.{FormFault}
use Rattle.job_file.specs.declared.fault.FormFault.TheVariants as fault
use Rattle.job_file.specs.declared.fault.Part.{Part}
use Rattle.job_file.specs.Names.{column_named}

-- what is made of a whole number, of a text, and of neither
abbrev pub whole_or_text : {A : Type 0} → Part → (ℤ → A) → (List ℕ → A) → Option ℤ
    → Option (List ℕ) → Result A FormFault
whole_or_text place of_whole of_text (Some z) text = Ok (of_whole z)
whole_or_text place of_whole of_text None (Some text) = Ok (of_text text)
whole_or_text place of_whole of_text None None = Err (fault.Shape place)

-- a literal is a whole number or a text
abbrev pub literal_of : Part → Data → Result Value FormFault
literal_of part d = whole_or_text part value.Num value.Text (as_integer d) (as_str d)

-- an operand is a whole number or the name of a column
abbrev pub operand_of : List Column → Part → Data → Result Operand FormFault
operand_of columns part d =
    whole_or_text part operand.Number (λ name. operand.Column (column_named columns name))
    (as_integer d) (as_str d)
