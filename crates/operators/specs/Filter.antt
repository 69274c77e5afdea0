-- What a filter makes of a tuple.
use Rattle.std.specs.Prelude.{List, [], ◌∷◌, if◌then◌else◌}
use Rattle.std.specs.List.{list_all}
use Rattle.flow_dag.specs.declared.edge.Edge.{Edge}
use Rattle.tuple_trace.specs.declared.tuple.Tuple.{Tuple}
use Rattle.tuple_trace.specs.declared.tuple.Visit.{Visit}
use Rattle.jobs.specs.declared.column.Column.{Column}
use Rattle.jobs.specs.declared.func.Cond.{Cond}
use Rattle.jobs.specs.Ports.{has_port}
use Rattle.operators.specs.declared.output.Output.{Output}
use Rattle.operators.specs.Conditions.{meets}
use Rattle.operators.specs.Sent.{sent}

-- a filter: a tuple that meets all conditions leaves by port 0, and any other by port 1, where the
-- node has an edge there
abbrev pub filtered : List Column → List Edge → Visit → List Cond → Tuple → List Output
filtered columns edges visit conds tuple =
    if list_all (meets columns tuple.fields) conds then sent visit 0 tuple ∷ [] else
    (if has_port edges visit.node 1 then sent visit 1 tuple ∷ [] else [])
