use Rattle.std.specs.Prelude.{◌≡◌, ℕ, ◌<◌, List, AllPairs, Any, Some, slice_get, take}
use Rattle.flow_dag.specs.declared.edge.Edge.{Edge}

-- the edge leads from `a` to `b`
abbrev pub Joins : ℕ → ℕ → Edge → Type 0
Joins a b e = (e.from ≡ a) × (e.to ≡ b)

-- one of the edges leads from `a` to `b`
abbrev pub HasEdge : List Edge → ℕ → ℕ → Type 0
HasEdge edges a b = Any (Joins a b) edges

-- both ends of the edge are among the first `n` nodes
abbrev pub IsInside : ℕ → Edge → Type 0
IsInside n e = (e.from < n) × (e.to < n)

-- no two of the edges have the same ends
abbrev pub HaveDistinctEnds : List Edge → Type 0
HaveDistinctEnds edges = AllPairs (λ e f. ¬ Joins f.from f.to e) edges

-- the edge at place `i` has an end that is none of the first `n` nodes
abbrev pub IsOutside : ℕ → List Edge → ℕ → Type 0
IsOutside n edges i = (e : Edge) × (slice_get edges i ≡ Some e) × ¬ IsInside n e

-- the edge at place `i` has the ends of an earlier one
abbrev pub IsRepeated : List Edge → ℕ → Type 0
IsRepeated edges i = (e : Edge) × (slice_get edges i ≡ Some e) × HasEdge (take i edges) e.from e.to
