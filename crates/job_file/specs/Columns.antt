-- The columns of a job, each written as NAME:KIND or NAME:KIND:own.
use Rattle.std.specs.Prelude.{ℕ, List, codes, Bool, true, false, ◌==◌, Option, None, Some, Result}
use Rattle.std.specs.Prelude.{Ok, Err, if◌then◌else◌}
use Rattle.std.specs.List.{after_first, before_first}
use Rattle.std.specs.Str.{bytes_eq}
use Rattle.toml.specs.Data.{Data}
use Rattle.jobs.specs.declared.column.Column.{Column}
use Rattle.jobs.specs.declared.column.ColumnKind.{ColumnKind}
use Rattle.jobs.specs.declared.column.ColumnKind.TheVariants as kind
use Rattle.job_file.specs.declared.fault.FormFault.{FormFault}
use Rattle.job_file.specs.declared.fault.FormFault.TheVariants as fault
use Rattle.job_file.specs.declared.fault.Part.TheVariants as part
use Rattle.job_file.specs.Document.{and_then, text_of}
use Rattle.job_file.specs.Names.{is_name}

-- a colon
abbrev pub is_colon : ℕ → Bool
is_colon byte = byte == 58

-- what stands behind the first colon: the kind, and whether the column is the job's own
abbrev pub ending_of : List ℕ → Option (ColumnKind × Bool)
ending_of word =
    if bytes_eq word (codes "text") then Some (kind.Text, false) else
    if bytes_eq word (codes "number") then Some (kind.Number, false) else
    if bytes_eq word (codes "cents") then Some (kind.Cents, false) else
    if bytes_eq word (codes "text:own") then Some (kind.Text, true) else
    if bytes_eq word (codes "number:own") then Some (kind.Number, true) else
    if bytes_eq word (codes "cents:own") then Some (kind.Cents, true) else None

-- the column with this name and ending
abbrev pub column_with : List ℕ → Option (ColumnKind × Bool) → Result Column FormFault
column_with name None = Err (fault.Shape part.Columns)
column_with name (Some (k, own)) =
    if is_name name then Ok (record { name = name; kind = k; own = own })
    else Err (fault.Shape part.Columns)

-- the column of a text
abbrev pub column_text : List ℕ → Result Column FormFault
column_text text = column_with (before_first is_colon text) (ending_of (after_first is_colon text))

-- the column that a value spells, which has to be a text
abbrev pub column_of : Data → Result Column FormFault
column_of d = and_then (text_of part.Columns d) column_text
