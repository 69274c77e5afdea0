-- A lane that is fed by hand.
use Rattle.std.specs.Prelude.{ℕ}
use Rattle.flow_dag.specs.Graph.{IsEdge}
use Rattle.lane_core.specs.declared.form.Origin.{Origin}

-- no edge leads into the node where a lane begins
abbrev pub IsUnled : Origin → Type 0
IsUnled origin = (a : ℕ) → ¬ IsEdge origin.graph a origin.from
