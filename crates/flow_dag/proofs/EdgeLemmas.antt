-- Lemmas on lists of edges, and the masks of children that they give.
use Rattle.std.proofs.Common.{◌≡◌, ◌∙◌, ℕ, ◌<◌, ◌↔◌, ◌⊎◌, inl, inr, sym, refl, arith, subst, List, [], ◌∷◌, ◌++◌, length, get_or, set, get_or-set_same, get_or-set_other}
use Rattle.std.specs.Prelude.{Any}
use Rattle.std.proofs.lemmas.Bool.{cases_eq, cases_lt}
use Rattle.std.proofs.lemmas.Option.{slice_get-get_or, slice_get_within, get_or_from_slice_get}
use Rattle.std.specs.Prelude.{Some, slice_get}
use Rattle.std.proofs.Common.{ap}
use Rattle.std.proofs.lemmas.List.{get_or_append_left, get_or_push, length_push}
use Rattle.std.proofs.lemmas.List.Elements.{Contains-get_or}
use Rattle.std.proofs.lemmas.List.Quantifiers.{Any-push, all_pairs_push}
use Rattle.flow_dag.specs.declared.edge.Edge.{Edge}
use Rattle.flow_dag.specs.Masks.{Has}
use Rattle.flow_dag.specs.Rows.{RowHas}
use Rattle.flow_dag.specs.Edges.{Joins, HasEdge, HaveDistinctEnds}

any_push_left : (P : Edge → Type 0) (es : List Edge) (e : Edge) → Any P es → Any P (es ++ e ∷ [])
any_push_left P es e (k, x, lt, is, p) = (k, x, omega (arith, length_push es e), get_or_append_left es (e ∷ []) x k lt ∙ is, p)

any_push_cases : (P : Edge → Type 0) (es : List Edge) (e : Edge) → Any P (es ++ e ∷ []) → Any P es ⊎ P e
any_push_cases P es e (k, x, lt, is, p) =
    elim (cases_lt k (length es)) [
      | inl l ↦ inl (k, x, l, sym (get_or_append_left es (e ∷ []) x k l) ∙ is, p)
      | inr ge ↦
          let last : length es ≡ k = omega (arith, length_push es e) in
          inr (subst P (sym is ∙ get_or_push es e x k last) p)
    ]

pub HasEdge-push_cases : (es : List Edge) (e : Edge) (a b : ℕ) → HasEdge (es ++ e ∷ []) a b → HasEdge es a b ⊎ Joins a b e
HasEdge-push_cases es e a b = any_push_cases (Joins a b) es e

-- the edges with one more, and the masks with one more bit
pub RowHas-set :
    (child : List ℕ) (es : List Edge) (e : Edge) (row : ℕ) → ((a b : ℕ) → RowHas child a b ↔ HasEdge es a b) → e.from < length child →
    Has row e.to → ((k : ℕ) → (k ≡ e.to → ⊥) → Has row k ↔ Has (get_or child e.from 0) k) →
    (a b : ℕ) → RowHas (set child e.from row) a b ↔ HasEdge (es ++ e ∷ []) a b
RowHas-set child es e row same within here others a b =
    elim (cases_eq a e.from) [
      | inl is ↦
          let at : get_or (set child e.from row) a 0 ≡ row = rw is (get_or-set_same child e.from row 0 within) in
          elim (cases_eq b e.to) [
            | inl to ↦ rw (at, to) (λ h. Any-push (Joins a e.to) es e (sym is, refl), λ h. here)
            | inr ne ↦
                rw at (
                  λ h. any_push_left (Joins a b) es e ((same a b).0 (rw is ((others b ne).0 h))),
                  λ h. (others b ne).1 (elim (HasEdge-push_cases es e a b h) [
                    | inl g ↦ let g' = (same a b).1 g in rw is at g'
                    | inr j ↦ absurd (ne (sym j.1))
                  ]),
                )
          ]
      | inr ne ↦
          let at : get_or (set child e.from row) a 0 ≡ get_or child a 0 = get_or-set_other child e.from a row 0 ne in
          rw at (
            λ h. any_push_left (Joins a b) es e ((same a b).0 h),
            λ h. (same a b).1 (elim (HasEdge-push_cases es e a b h) [ inl g ↦ g | inr j ↦ absurd (ne (sym j.0)) ]),
          )
    ]

pub HaveDistinctEnds-push : (es : List Edge) (e : Edge) → HaveDistinctEnds es → (HasEdge es e.from e.to → ⊥) → HaveDistinctEnds (es ++ e ∷ [])
HaveDistinctEnds-push es e apart new =
    all_pairs_push (λ x y. Joins y.from y.to x → ⊥) es e apart
    (λ k d lt j. let (k', lt', is) = Contains-get_or es k d lt in new (k', get_or es k d, lt', is, j))

-- no edge stands in an empty list
pub HasEdge-none : (a b : ℕ) → HasEdge [] a b → ⊥
HasEdge-none a b (k, x, lt, is, p) = omega arith

-- an edge by its place in the list
pub HasEdge-at : (edges : List Edge) (i : ℕ) (e : Edge) → slice_get edges i ≡ Some e → HasEdge edges e.from e.to
HasEdge-at edges i e at = (i, e, slice_get_within edges i e at, get_or_from_slice_get edges i e e at, (refl, refl))

pub HasEdge-place : (edges : List Edge) (a b : ℕ) → HasEdge edges a b → (i : ℕ) × (e : Edge) × (slice_get edges i ≡ Some e) × Joins a b e
HasEdge-place edges a b (i, e, lt, is, j) = (i, e, slice_get-get_or edges i e lt ∙ ap Some is, j)
