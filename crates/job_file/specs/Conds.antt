-- The conditions of a filter.
use Rattle.std.specs.Prelude.{ℕ, List, ok_or, Result, Ok, Err}
use Rattle.toml.specs.Data.{Data, Items, no_items, item}
use Rattle.tuple_trace.specs.declared.value.Value.{Value}
use Rattle.jobs.specs.declared.column.Column.{Column}
use Rattle.jobs.specs.declared.func.Cond.{Cond}
use Rattle.jobs.specs.declared.func.Test.{Test}
use Rattle.jobs.specs.Tests.{test_named}
use Rattle.job_file.specs.declared.fault.FormFault.{FormFault}
use Rattle.job_file.specs.declared.fault.FormFault.TheVariants as fault
use Rattle.job_file.specs.declared.fault.Part.TheVariants as part
use Rattle.job_file.specs.Document.{and_then, items_of, text_of}
use Rattle.job_file.specs.Literals.{literal_of}
use Rattle.job_file.specs.Names.{column_named}

-- the test of a text
abbrev pub test_of : Data → Result Test FormFault
test_of d = and_then (text_of part.When d) (λ word. ok_or (test_named word) (fault.Shape part.When))

-- the condition on the column with this name, with these parts
abbrev pub cond_with : List Column → List ℕ → Test → Value → Result Cond FormFault
cond_with columns name t literal =
    Ok (record { column = column_named columns name; test = t; literal = literal })

-- a condition is the name of a column, a test and a literal
abbrev pub cond_by : List Column → Data → Data → Data → Result Cond FormFault
cond_by columns column t literal =
    and_then (text_of part.When column) (λ name.
    and_then (test_of t) (λ found.
    and_then (literal_of part.When literal) (cond_with columns name found)))

-- the condition that an array spells, which has to have three items
abbrev pub cond_in : List Column → Items → Result Cond FormFault
cond_in columns (item column (item t (item literal no_items))) = cond_by columns column t literal
cond_in columns _ = Err (fault.Shape part.When)

-- the condition that a value spells, which has to be an array
abbrev pub cond_of : List Column → Data → Result Cond FormFault
cond_of columns d = and_then (items_of part.When d) (cond_in columns)
