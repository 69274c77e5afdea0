-- The ports of a node, and how many outputs leave by them.
use Rattle.std.specs.Prelude.{ℕ, List, length, map, filter}
use Rattle.flow_dag.specs.declared.edge.Edge.{Edge}
use Rattle.jobs.specs.declared.func.Func.{Func}
use Rattle.jobs.specs.declared.kind.Shape.{Shape}
use Rattle.jobs.specs.declared.kind.Shape.TheVariants as shape
use Rattle.jobs.specs.Kinds.{row_at}
use Rattle.jobs.specs.Nodes.{fan_out}
use Rattle.jobs.specs.Ports.{leaves}

-- the ports of the edges that leave a node, in the order of the edges
abbrev pub out_ports : List Edge → ℕ → List ℕ
out_ports edges node = map (λ (e : Edge). e.port) (filter (leaves node) edges)

-- the most outputs that a function makes of one tuple, at a node with these ports
abbrev pub most_as : Shape → Func → List ℕ → ℕ
most_as shape.Nothing func ports = 0
most_as shape.AtMostOne func ports = 1
most_as shape.Pieces func ports = fan_out func
most_as shape.Copies func ports = length ports

abbrev pub most_outputs : Func → List ℕ → ℕ
most_outputs func ports = most_as (row_at func).shape func ports
