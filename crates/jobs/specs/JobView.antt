-- A job as it is written.
use Rattle.std.specs.Prelude.{List}
use Rattle.flow_dag.specs.declared.edge.Edge.{Edge}
use Rattle.jobs.specs.declared.column.Column.{Column}
use Rattle.jobs.specs.declared.func.NodeDef.{NodeDef}
use Rattle.jobs.specs.declared.table.Table.{Table}

-- a job as it is written: what its file says, before an order of its nodes is drawn
pub record JobView : Type 0 where
  pub columns : List Column
  pub nodes : List NodeDef
  pub edges : List Edge
  pub tables : List Table

-- the job that is written with these parts
abbrev pub job_view_as : List Column → List NodeDef → List Edge → List Table → JobView
job_view_as columns nodes edges tables =
    record { columns = columns; nodes = nodes; edges = edges; tables = tables }
