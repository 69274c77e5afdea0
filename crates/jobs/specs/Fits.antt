-- Which functions fit the columns and tables of a job.
use Rattle.std.specs.Prelude.{ℕ, Bool, true, ◌&&◌, List, length, nat_lt, Option, Some, None, slice_get}
use Rattle.std.specs.List.{list_all}
use Rattle.std.specs.FinMap as finite
use Rattle.keyed_state.specs.TextMap.{TextMapOf}
use Rattle.tuple_trace.specs.declared.value.Value.{Value}
use Rattle.tuple_trace.specs.declared.value.Value.TheVariants as value
use Rattle.jobs.specs.declared.column.Column.{Column}
use Rattle.jobs.specs.declared.column.ColumnKind.{ColumnKind}
use Rattle.jobs.specs.declared.func.Cond.{Cond}
use Rattle.jobs.specs.declared.func.Func.{Func}
use Rattle.jobs.specs.declared.func.Func.TheVariants as func
use Rattle.jobs.specs.declared.func.Operand.{Operand}
use Rattle.jobs.specs.declared.func.Operand.TheVariants as operand
use Rattle.jobs.specs.declared.func.Step.{Step}
use Rattle.jobs.specs.declared.func.Test.{Test}
use Rattle.jobs.specs.declared.table.Table.{Table}
use Rattle.jobs.specs.Columns.{has_column, holds, is_amount, is_text, kind_at}
use Rattle.jobs.specs.Tests.{row_of_test}
use Rattle.jobs.specs.JobView.{JobView}

-- the test may compare a column with the literal: not every test is one of texts
abbrev pub is_tested : Test → Value → Bool
is_tested test (value.Num number) = true
is_tested test (value.Text text) = (row_of_test test).texts

-- the operand is a number, or names a column of numbers
abbrev pub operand_fits : List Column → Operand → Bool
operand_fits columns (operand.Number number) = true
operand_fits columns (operand.Column column) = is_amount (kind_at columns column)

-- the condition names a column that may hold its literal, and tests it as a column of that kind may
-- be
abbrev pub cond_fits : List Column → Cond → Bool
cond_fits columns cond =
    holds (kind_at columns cond.column) cond.literal && is_tested cond.test cond.literal

-- the step computes a column of numbers, of numbers
abbrev pub step_fits : List Column → Step → Bool
step_fits columns step =
    is_amount (kind_at columns step.column) && operand_fits columns step.a
    && operand_fits columns step.b

-- a column of this kind may hold every value of these entries
abbrev pub values_fit : Option ColumnKind → TextMapOf Value → Bool
values_fit kind entries = list_all (λ (e : List ℕ × Value). holds kind e.1) (finite.entries entries)

-- a column of this kind may hold every value of the table, if there is a table
abbrev pub table_fits : Option ColumnKind → Option Table → Bool
table_fits kind None = true
table_fits kind (Some table) = values_fit kind table.entries

-- the columns that the function names are there and of the right kinds, and so are its literals and
-- the values of its table
abbrev pub fits_columns : List Column → List Table → Func → Bool
fits_columns columns tables func.Source = true
fits_columns columns tables (func.Filter conds) = list_all (cond_fits columns) conds
fits_columns columns tables (func.Map steps) = list_all (step_fits columns) steps
fits_columns columns tables (func.Enrich lookup) =
    is_text (kind_at columns lookup.key)
    && holds (kind_at columns lookup.into) lookup.other
    && table_fits (kind_at columns lookup.into) (slice_get tables lookup.table)
fits_columns columns tables (func.Count count) =
    is_text (kind_at columns count.key) && operand_fits columns count.add
    && is_amount (kind_at columns count.into)
fits_columns columns tables (func.Dedupe dedupe) = is_text (kind_at columns dedupe.key)
fits_columns columns tables (func.Clamp clamp) = is_amount (kind_at columns clamp.on)
fits_columns columns tables (func.Split split) = is_text (kind_at columns split.on)
fits_columns columns tables func.Replicate = true
fits_columns columns tables (func.Sink listed) = list_all (has_column columns) listed

-- the table that the function names is there
abbrev pub fits_table : List Table → Func → Bool
fits_table tables (func.Enrich lookup) = nat_lt lookup.table (length tables)
fits_table tables _ = true

-- a node of the job may have the function: its columns and its table fit
abbrev pub fits : JobView → Func → Bool
fits job func = fits_columns job.columns job.tables func && fits_table job.tables func
