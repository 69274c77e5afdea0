-- What the requests of a setup cover.
use Rattle.std.specs.Prelude.{ℕ, zero, suc, Bool, false, Option, Some, None, slice_get}
use Rattle.cover_planner.specs.declared.cover.Plan.{Plan}
use Rattle.flow_dag.specs.Masks.{has}
use Rattle.flow_model.specs.SetupView.{SetupView}

-- the plan of a request; they are counted from 1, so request 0 has none
abbrev pub plan_of : SetupView → ℕ → Option Plan
plan_of setup zero = None
plan_of setup (suc r) = slice_get setup.plans r

-- there is a plan, and it covers the node
abbrev pub holds_node : Option Plan → ℕ → Bool
holds_node None node = false
holds_node (Some plan) node = has plan.nodes node

-- there is a plan, and it covers the edge
abbrev pub holds_edge : Option Plan → ℕ → Bool
holds_edge None edge = false
holds_edge (Some plan) edge = has plan.edges edge

-- there is a plan, and the node is one of its heads
abbrev pub heads : Option Plan → ℕ → Bool
heads None node = false
heads (Some plan) node = has plan.heads node

-- the request covers the node
abbrev pub covers : SetupView → ℕ → ℕ → Bool
covers setup request node = holds_node (plan_of setup request) node

-- the request covers the edge with this number
abbrev pub covers_edge : SetupView → ℕ → ℕ → Bool
covers_edge setup request edge = holds_edge (plan_of setup request) edge

-- the node is a head of what the request covers
abbrev pub is_head : SetupView → ℕ → ℕ → Bool
is_head setup request node = heads (plan_of setup request) node

-- there is a plan, and it was made for the node
abbrev pub holds_asked : Option Plan → ℕ → Bool
holds_asked None node = false
holds_asked (Some plan) node = has plan.asked node

-- the plan of the request was made for the node, as for every node that the request changes
abbrev pub asks : SetupView → ℕ → ℕ → Bool
asks setup request node = holds_asked (plan_of setup request) node
