-- Names of columns and nodes.
use Rattle.std.specs.Prelude.{ℕ, Bool, false, not, List, length, filter, nat_eq, take, Option, Some, None, slice_get}
use Rattle.std.specs.List.{list_any}
use Rattle.std.specs.Cmp.Lexicographic.{pointwise}
use Rattle.flow_dag.specs.declared.edge.Edge.{Edge}
use Rattle.jobs.specs.declared.column.Column.{Column}
use Rattle.jobs.specs.declared.func.NodeDef.{NodeDef}

-- one of the columns has the name
abbrev pub has_column_named : List Column → List ℕ → Bool
has_column_named columns name = list_any (λ (c : Column). pointwise nat_eq c.name name) columns

-- one of the nodes has the name
abbrev pub has_node_named : List NodeDef → List ℕ → Bool
has_node_named nodes name = list_any (λ (n : NodeDef). pointwise nat_eq n.name name) nodes

-- no column before this place has the name of this one
abbrev pub is_new_column : List Column → ℕ → Column → Bool
is_new_column columns i column = not (has_column_named (take i columns) column.name)

-- no node before this place has the name of this one
abbrev pub is_new_node : List NodeDef → ℕ → NodeDef → Bool
is_new_node nodes i node = not (has_node_named (take i nodes) node.name)

-- there is a node, and it has the name
abbrev pub is_node_named : List ℕ → Option NodeDef → Bool
is_node_named name None = false
is_node_named name (Some node) = pointwise nat_eq node.name name

-- the edge leaves a node of this name
abbrev pub leaves_named : List NodeDef → List ℕ → Edge → Bool
leaves_named nodes name edge = is_node_named name (slice_get nodes edge.from)

-- how many edges leave nodes of this name
abbrev pub named_out_count : List NodeDef → List Edge → List ℕ → ℕ
named_out_count nodes edges name = length (filter (leaves_named nodes name) edges)
