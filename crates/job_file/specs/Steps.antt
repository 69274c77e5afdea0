-- The steps of a map.
use Rattle.std.specs.Prelude.{ℕ, List, codes, Result, Ok, Err, if◌then◌else◌}
use Rattle.std.specs.Str.{bytes_eq}
use Rattle.toml.specs.Data.{Data, Items, no_items, item}
use Rattle.jobs.specs.declared.column.Column.{Column}
use Rattle.jobs.specs.declared.func.Op.{Op}
use Rattle.jobs.specs.declared.func.Op.TheVariants as op
use Rattle.jobs.specs.declared.func.Operand.{Operand}
use Rattle.jobs.specs.declared.func.Step.{Step}
use Rattle.job_file.specs.declared.fault.FormFault.{FormFault}
use Rattle.job_file.specs.declared.fault.FormFault.TheVariants as fault
use Rattle.job_file.specs.declared.fault.Part.TheVariants as part
use Rattle.job_file.specs.Document.{and_then, items_of, text_of}
use Rattle.job_file.specs.Literals.{operand_of}
use Rattle.job_file.specs.Names.{column_named}

-- what a word computes
abbrev pub op_named : List ℕ → Result Op FormFault
op_named word =
    if bytes_eq word (codes "add") then Ok op.Add else
    if bytes_eq word (codes "sub") then Ok op.Sub else
    if bytes_eq word (codes "mul") then Ok op.Mul else
    if bytes_eq word (codes "min") then Ok op.Min else
    if bytes_eq word (codes "max") then Ok op.Max else Err (fault.Shape part.Steps)

-- the operation that a value names
abbrev pub op_of : Data → Result Op FormFault
op_of d = and_then (text_of part.Steps d) op_named

-- the step on the column with this name, with these parts
abbrev pub step_with : List Column → List ℕ → Op → Operand → Operand → Result Step FormFault
step_with columns name o a b =
    Ok (record { column = column_named columns name; op = o; a = a; b = b })

-- a step is the name of a column, what is computed, and two operands
abbrev pub step_by : List Column → Data → Data → Data → Data → Result Step FormFault
step_by columns column o a b =
    and_then (text_of part.Steps column) (λ name.
    and_then (op_of o) (λ found.
    and_then (operand_of columns part.Steps a) (λ first.
    and_then (operand_of columns part.Steps b) (step_with columns name found first))))

-- the step that an array spells, which has to have four items
abbrev pub step_in : List Column → Items → Result Step FormFault
step_in columns (item column (item o (item a (item b no_items)))) = step_by columns column o a b
step_in columns _ = Err (fault.Shape part.Steps)

-- the step that a value spells, which has to be an array
abbrev pub step_of : List Column → Data → Result Step FormFault
step_of columns d = and_then (items_of part.Steps d) (step_in columns)
