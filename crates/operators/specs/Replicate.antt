-- What a replicate makes of a tuple.
use Rattle.std.specs.Prelude.{List, filter, map}
use Rattle.flow_dag.specs.declared.edge.Edge.{Edge}
use Rattle.tuple_trace.specs.declared.tuple.Tuple.{Tuple}
use Rattle.tuple_trace.specs.declared.tuple.Visit.{Visit}
use Rattle.jobs.specs.Ports.{leaves}
use Rattle.operators.specs.declared.output.Output.{Output}
use Rattle.operators.specs.Sent.{born, sent}

-- a replicate: a copy leaves along each edge of the node, and its last birth is the port of the
-- edge
abbrev pub replicated : List Edge → Visit → Tuple → List Output
replicated edges visit tuple =
    map (λ (e : Edge). sent visit e.port (born e.port tuple)) (filter (leaves visit.node) edges)
