-- The conditions of a filter.
use Rattle.std.specs.Prelude.{Bool, false, not, List, Option, Some, None, slice_get, nat_eq, if◌then◌else◌}
use Rattle.std.specs.Ordering.{int_cmp}
use Rattle.std.specs.Cmp.Lexicographic.{pointwise}
use Rattle.std.specs.declared.cmp.Ordering.{Ordering}
use Rattle.std.specs.declared.cmp.Ordering.TheVariants as o
use Rattle.tuple_trace.specs.declared.value.Value.{Value}
use Rattle.tuple_trace.specs.Values.{as_number, as_text}
use Rattle.jobs.specs.declared.column.Column.{Column}
use Rattle.jobs.specs.declared.column.ColumnKind.{ColumnKind}
use Rattle.jobs.specs.declared.column.ColumnKind.TheVariants as kind
use Rattle.jobs.specs.declared.func.Cond.{Cond}
use Rattle.jobs.specs.declared.func.Test.{Test}
use Rattle.jobs.specs.Columns.{kind_at}
use Rattle.jobs.specs.Tests.{row_of_test}

-- whether a test admits two numbers that compare so
abbrev pub admits : Test → Ordering → Bool
admits test o.Less = (row_of_test test).less
admits test o.Equal = (row_of_test test).equal
admits test o.Greater = (row_of_test test).greater

-- whether a test admits two texts that are the same or not: an order of texts is no test
abbrev pub admits_text : Test → Bool → Bool
admits_text test same =
    if (row_of_test test).texts
    then (if same then (row_of_test test).equal else not (row_of_test test).equal)
    else false

-- whether a field of a column of this kind meets a test against a literal; both are read by the
-- kind
abbrev pub compares : Option ColumnKind → Test → Option Value → Value → Bool
compares None test field literal = false
compares (Some kind.Text) test field literal =
    admits_text test (pointwise nat_eq (as_text field) (as_text (Some literal)))
compares (Some kind.Number) test field literal =
    admits test (int_cmp (as_number field) (as_number (Some literal)))
compares (Some kind.Cents) test field literal =
    admits test (int_cmp (as_number field) (as_number (Some literal)))

-- whether fields meet a condition
abbrev pub meets : List Column → List Value → Cond → Bool
meets columns fields cond =
    compares (kind_at columns cond.column) cond.test (slice_get fields cond.column) cond.literal
