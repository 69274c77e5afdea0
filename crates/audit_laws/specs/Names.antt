-- Workers by the names of their nodes.
use Rattle.std.specs.Prelude.{ℕ, zero, suc, ◌+◌, List, [], ◌∷◌}
use Rattle.std.specs.List.{flat_map}
use Rattle.jobs.specs.Nodes.{workers_of}
use Rattle.jobs.specs.declared.func.NodeDef.{NodeDef}

-- A worker as a record names it: the name of its node, and its place there.
pub record Named : Type 0 where
  pub node : List ℕ
  pub place : ℕ

-- As many workers of a node as the last number says, from this place on.
abbrev pub named_at : List ℕ → ℕ → ℕ → List Named
named_at node place zero = []
named_at node place (suc left) =
    record { node = node; place = place } ∷ named_at node (place + 1) left

-- The workers of these nodes, in the order of their numbers.
abbrev pub named_workers : List NodeDef → List Named
named_workers nodes = flat_map (λ (def : NodeDef). named_at def.name 0 (workers_of def)) nodes
