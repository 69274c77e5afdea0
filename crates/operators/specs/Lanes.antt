-- Which worker a tuple reaches.
use Rattle.std.specs.Prelude.{ℕ, ◌%◌, List, Option, None, Some, slice_get}
use Rattle.flow_dag.specs.declared.edge.Edge.{Edge}
use Rattle.tuple_trace.specs.declared.tuple.Tuple.{Tuple}
use Rattle.tuple_trace.specs.Spread.{spread_of}
use Rattle.jobs.specs.declared.column.Column.{Column}
use Rattle.jobs.specs.declared.func.Func.{Func}
use Rattle.jobs.specs.declared.func.NodeDef.{NodeDef}
use Rattle.jobs.specs.Kinds.{key_of}
use Rattle.jobs.specs.JobView.{JobView}
use Rattle.operators.specs.Fields.{text_at}

-- among this number of workers, by the column of the key, if the node counts by one
abbrev pub worker_by : List Column → Option ℕ → ℕ → Tuple → ℕ
worker_by columns None workers tuple = tuple.row % workers
worker_by columns (Some key) workers tuple = spread_of (text_at columns tuple.fields key) workers

-- among this number of workers of a node with this function: a count spreads its keys, and every
-- other node its rows
abbrev pub worker_among : List Column → Func → ℕ → Tuple → ℕ
worker_among columns func workers tuple = worker_by columns (key_of func) workers tuple

-- the worker of a node that a tuple reaches
abbrev pub worker_at : List Column → Option NodeDef → Tuple → ℕ
worker_at columns None tuple = 0
worker_at columns (Some node) tuple = worker_among columns node.func node.workers tuple

-- the worker that a tuple reaches along an edge, if there is such an edge
abbrev pub worker_for : JobView → Option Edge → Tuple → ℕ
worker_for job None tuple = 0
worker_for job (Some edge) tuple = worker_at job.columns (slice_get job.nodes edge.to) tuple

-- the worker that a tuple reaches along the edge with this number
abbrev pub worker_along : JobView → ℕ → Tuple → ℕ
worker_along job edge tuple = worker_for job (slice_get job.edges edge) tuple
