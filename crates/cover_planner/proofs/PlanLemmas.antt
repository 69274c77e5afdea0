-- The masks of a cover, one from another.
use Rattle.std.proofs.Common.{ℕ, ◌↔◌, ◌⊎◌, inl, inr, List}
use Rattle.flow_dag.specs.declared.edge.Edge.{Edge}
use Rattle.flow_dag.specs.Masks.{Has}
use Rattle.flow_dag.specs.Rows.{RowHas}
use Rattle.flow_dag.specs.Paths.{IsOrReaches}
use Rattle.flow_dag.proofs.PathLemmas.{IsOrReaches-map}
use Rattle.cover_planner.specs.Cover.{IsCoveredEdge, IsCoveredNode, IsHead, AreJoined, InOnePart, MarksEdges}
use Rattle.cover_planner.specs.Parts.{IsNumbered}

module _ (E : ℕ → ℕ → Type 0) (M : ℕ → Type 0)
    (covered parents joined : List ℕ) (nodes : ℕ)
    (is : (a b : ℕ) → RowHas covered a b ↔ IsCoveredEdge E M a b)
    (turned : (a b : ℕ) → RowHas parents a b ↔ RowHas covered b a)
    (ways : (a b : ℕ) → RowHas joined a b ↔ (RowHas covered a b ⊎ RowHas parents a b))
    (ends : (a : ℕ) → Has nodes a ↔ (M a ⊎ ((b : ℕ) × RowHas joined a b)))
  where
    pub RowHas-joined : (a b : ℕ) → RowHas joined a b ↔ AreJoined E M a b
    RowHas-joined a b = (
      λ h. elim ((ways a b).0 h) [ inl u ↦ inl ((is a b).0 u) | inr v ↦ inr ((is b a).0 ((turned a b).0 v)) ],
      λ j. (ways a b).1 (elim j [ inl u ↦ inl ((is a b).1 u) | inr v ↦ inr ((turned a b).1 ((is b a).1 v)) ]),
    )

    pub RowHas-joined_back : (a b : ℕ) → RowHas joined a b → RowHas joined b a
    RowHas-joined_back a b h = (RowHas-joined b a).1 (elim ((RowHas-joined a b).0 h) [ inl u ↦ inr u | inr v ↦ inl v ])

    pub Has-joined : (a b : ℕ) → RowHas joined a b → Has nodes b
    Has-joined a b h = (ends b).1 (inr (a, RowHas-joined_back a b h))

    pub Has-nodes : (a : ℕ) → Has nodes a ↔ IsCoveredNode E M a
    Has-nodes a = (
      λ h. elim ((ends a).0 h) [ inl m ↦ inl m | inr t ↦ inr (t.0, (RowHas-joined a t.0).0 t.1) ],
      λ s. (ends a).1 (elim s [ inl m ↦ inl m | inr t ↦ inr (t.0, (RowHas-joined a t.0).1 t.1) ]),
    )

    pub Has-heads :
        (heads : ℕ) → ((a : ℕ) → Has heads a ↔ (Has nodes a × ((b : ℕ) → RowHas parents a b → ⊥))) →
        (a : ℕ) → Has heads a ↔ IsHead E M a
    Has-heads heads made a = (
      λ h. let (n, none) = (made a).0 h in ((Has-nodes a).0 n, λ b c. none b ((turned a b).1 ((is b a).1 c))),
      λ (n, none). (made a).1 ((Has-nodes a).1 n, λ b c. none b ((is b a).0 ((turned a b).0 c))),
    )

    pub IsNumbered-parts : (part : List ℕ) → IsNumbered (Has nodes) (IsOrReaches (RowHas joined)) part → IsNumbered (Has nodes) (InOnePart E M) part
    IsNumbered-parts part n = record {
      outside = n.outside;
      small = n.small;
      same = λ a b na nb. (
        λ e. IsOrReaches-map (RowHas joined) (AreJoined E M) (λ x y j. (RowHas-joined x y).0 j) a b ((n.same a b na nb).0 e),
        λ s. (n.same a b na nb).1 (IsOrReaches-map (AreJoined E M) (RowHas joined) (λ x y j. (RowHas-joined x y).1 j) a b s),
      );
      least = n.least;
    }

    pub MarksEdges-covered : (edges : List Edge) (mask : ℕ) → MarksEdges edges (RowHas covered) mask → MarksEdges edges (IsCoveredEdge E M) mask
    MarksEdges-covered edges mask m i = (
      λ h. let (e, at, c) = (m i).0 h in (e, at, (is e.from e.to).0 c),
      λ (e, at, c). (m i).1 (e, at, (is e.from e.to).1 c),
    )
