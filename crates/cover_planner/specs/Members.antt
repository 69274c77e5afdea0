use Rattle.std.specs.Prelude.{◌≢◌, ℕ, ◌⊎◌}
use Rattle.flow_dag.specs.Paths.{Reaches}

-- `E a b` says that an edge leads from `a` to `b`, `asked a` that `a` is asked, `splits a` that `a`
-- may make pieces of a tuple, and `copies a` that `a` sends a copy of each tuple along every edge.

-- an edge to the node leads to an asked node: the node is asked, or a path leads from it to an
-- asked node
abbrev pub LeadsToAsked : (ℕ → ℕ → Type 0) → (ℕ → Type 0) → ℕ → Type 0
LeadsToAsked E asked a = asked a ⊎ ((b : ℕ) × asked b × Reaches E a b)

-- edges to two nodes leave the node, and each of them leads to an asked node
abbrev pub LeadsTwice : (ℕ → ℕ → Type 0) → (ℕ → Type 0) → ℕ → Type 0
LeadsTwice E asked a =
    (b : ℕ) × (c : ℕ) × (b ≢ c) × (E a b × LeadsToAsked E asked b)
    × (E a c × LeadsToAsked E asked c)

-- an asked node, a node of `splits` from which a path leads to an asked node, or a node of `copies`
-- with two edges that lead to asked nodes
abbrev pub IsMember : (ℕ → ℕ → Type 0) → (ℕ → Type 0) → (ℕ → Type 0) → (ℕ → Type 0) → ℕ → Type 0
IsMember E asked splits copies a =
    asked a ⊎ ((splits a × ((b : ℕ) × asked b × Reaches E a b))
    ⊎ (copies a × LeadsTwice E asked a))
