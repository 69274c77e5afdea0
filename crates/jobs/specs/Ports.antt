-- The edges of a node.
use Rattle.std.specs.Prelude.{ℕ, Bool, true, false, ◌&&◌, ◌||◌, not, List, [], ◌∷◌, length, filter, ◌==◌, nat_le, zero, suc, if◌then◌else◌}
use Rattle.std.specs.List.{list_any}
use Rattle.flow_dag.specs.declared.edge.Edge.{Edge}
use Rattle.jobs.specs.declared.func.Func.{Func}
use Rattle.jobs.specs.Kinds.{row_at}
use Rattle.jobs.specs.Nodes.{is_source}

-- the edge leaves the node
abbrev pub leaves : ℕ → Edge → Bool
leaves node edge = edge.from == node

-- an edge leads from the one node to the other
abbrev pub has_edge : List Edge → ℕ → ℕ → Bool
has_edge edges from to = list_any (λ (e : Edge). e.from == from && e.to == to) edges

-- an edge enters the node
abbrev pub is_entered : List Edge → ℕ → Bool
is_entered edges node = list_any (λ (e : Edge). e.to == node) edges

-- an edge leaves the node on the port
abbrev pub has_port : List Edge → ℕ → ℕ → Bool
has_port edges node port = list_any (λ (e : Edge). e.from == node && e.port == port) edges

-- an edge leaves the node on each port below this number
unfoldable pub has_ports : List Edge → ℕ → ℕ → Bool
has_ports edges node zero = true
has_ports edges node (suc port) = has_ports edges node port && has_port edges node port

-- how many edges leave the node
abbrev pub out_count : List Edge → ℕ → ℕ
out_count edges node = length (filter (leaves node) edges)

-- two of the node's edges lead to one node
abbrev pub leads_twice : List Edge → ℕ → Bool
leads_twice [] node = false
leads_twice (edge ∷ edges) node =
    (leaves node edge && has_edge edges node edge.to) || leads_twice edges node

-- this number of edges may leave a node with this function
abbrev pub may_leave : Func → ℕ → Bool
may_leave func n = nat_le (row_at func).least_outs n && nat_le n (row_at func).most_outs

-- a node with this function may be entered, or not: a source is never entered, and every other node
-- is
abbrev pub may_enter : Func → Bool → Bool
may_enter func entered = if is_source func then not entered else entered

-- the edges of a node with this function are those of its kind, on the ports from 0 on, each to
-- another node
unfoldable pub are_ports : List Edge → ℕ → Func → Bool
are_ports edges node func =
    may_enter func (is_entered edges node)
    && may_leave func (out_count edges node)
    && has_ports edges node (out_count edges node)
    && not (leads_twice edges node)
