use Rattle.std.specs.Prelude.{◌≡◌, ⊤, ℕ, List, [], ◌∷◌}

-- A graph is given here by the relation of its edges: `E a b` says that an edge leads from `a` to
-- `b`.

-- from `a` on, an edge leads from each node to the next one of the list
abbrev pub IsWalk : (ℕ → ℕ → Type 0) → ℕ → List ℕ → Type 0
IsWalk E a [] = ⊤
IsWalk E a (b ∷ rest) = E a b × IsWalk E b rest

-- the node at the end of the walk that begins at `a`
abbrev pub last_of : ℕ → List ℕ → ℕ
last_of a [] = a
last_of a (b ∷ rest) = last_of b rest

-- a path is a nonempty list of nodes with an edge from each to the next
abbrev pub IsPath : (ℕ → ℕ → Type 0) → List ℕ → Type 0
IsPath E [] = ⊥
IsPath E (a ∷ rest) = IsWalk E a rest

-- the path leads from `a` to `b`: it begins with the one, ends with the other, and has two or more
-- nodes
abbrev pub Leads : (ℕ → ℕ → Type 0) → ℕ → ℕ → List ℕ → Type 0
Leads E a b [] = ⊥
Leads E a b (x ∷ []) = ⊥
Leads E a b (x ∷ y ∷ rest) = IsPath E (x ∷ y ∷ rest) × (x ≡ a) × (last_of y rest ≡ b)

-- some path leads from `a` to `b`
abbrev pub Reaches : (ℕ → ℕ → Type 0) → ℕ → ℕ → Type 0
Reaches E a b = (path : List ℕ) × Leads E a b path

-- some path begins with `a` and ends with `b`, which may be its only node
abbrev pub IsOrReaches : (ℕ → ℕ → Type 0) → ℕ → ℕ → Type 0
IsOrReaches E a b = (rest : List ℕ) × IsWalk E a rest × (last_of a rest ≡ b)

-- no path leads from a node back to it
abbrev pub IsAcyclic : (ℕ → ℕ → Type 0) → Type 0
IsAcyclic E = (a : ℕ) → ¬ Reaches E a a
