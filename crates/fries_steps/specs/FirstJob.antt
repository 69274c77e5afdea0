-- The job of `first`, and its request.
use Rattle.std.specs.Prelude.{ℕ, ℤ, List, [], ◌∷◌, false, codes}
use Rattle.keyed_state.specs.declared.carry.Carry.TheVariants as carry
use Rattle.versions.specs.declared.request.Request.{Request}
use Rattle.jobs.specs.JobView.{JobView}
use Rattle.jobs.specs.declared.column.Column.{Column}
use Rattle.jobs.specs.declared.column.ColumnKind.{ColumnKind}
use Rattle.jobs.specs.declared.column.ColumnKind.TheVariants as kind
use Rattle.jobs.specs.declared.func.Func.{Func}
use Rattle.jobs.specs.declared.func.Func.TheVariants as func
use Rattle.jobs.specs.declared.func.NodeDef.{NodeDef}
use Rattle.jobs.specs.declared.func.Test.TheVariants as test
use Rattle.tuple_trace.specs.declared.value.Value.TheVariants as value

-- a column of the payments file
abbrev pub file_column : List ℕ → ColumnKind → Column
file_column name kind = record { name = name; kind = kind; own = false }

-- a node with one worker
abbrev pub single_node : List ℕ → Func → NodeDef
single_node name func = record { name = name; func = func; workers = 1; roof = 1 }

-- the filter that amounts from this one on pass
abbrev pub is_at_least : ℤ → Func
is_at_least least =
    func.Filter (record { column = 2; test = test.Ge; literal = value.Num least } ∷ [])

-- the columns of the job of `first`: the account, the merchant, the amount and the tags
abbrev pub first_columns : List Column
first_columns =
    file_column (codes "account") kind.Text ∷ file_column (codes "merchant") kind.Text
    ∷ file_column (codes "amount") kind.Cents ∷ file_column (codes "tags") kind.Text ∷ []

-- a source, a filter of large amounts, and a sink that shows every column; the source sends to the
-- filter, and the filter to the sink
abbrev pub first_job : ℤ → JobView
first_job least = record {
  columns = first_columns;
  nodes = single_node (codes "card") func.Source ∷ single_node (codes "big") (is_at_least least)
      ∷ single_node (codes "alerts") (func.Sink (0 ∷ 1 ∷ 2 ∷ 3 ∷ [])) ∷ [];
  edges = record { from = 0; port = 0; to = 1 } ∷ record { from = 1; port = 0; to = 2 } ∷ [];
  tables = [];
}

-- the request that the amounts of `big` begin at another one from a row on
abbrev pub first_request : ℕ → ℤ → Request
first_request after least = record {
  after = after;
  changes = record { node = 1; from = 0; func = is_at_least least; carry = carry.Keep } ∷ [];
}
