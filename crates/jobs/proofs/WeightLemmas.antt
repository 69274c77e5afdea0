-- Weights of nodes, round by round.
use Rattle.std.proofs.Common.{◌≡◌, ◌<◌, ◌+◌, ℕ, List, [], ◌∷◌, All, length, inl, inr, refl, ap, ◌∙◌, arith, suc}
use Rattle.std.specs.List.{fold}
use Rattle.std.proofs.lemmas.Bool.{cases_eq, ne_eqb}
use Rattle.std.proofs.lemmas.List.Elements.{All-head, All-tail}
use Rattle.flow_dag.specs.declared.edge.Edge.{Edge}
use Rattle.jobs.specs.declared.func.NodeDef.{NodeDef}
use Rattle.jobs.specs.Weights.{weighed, weight_after, weight_from, with_edge}

-- what an edge brings is the same where its sender weighs the same
with_edge-same :
    (nodes : List NodeDef) (w w' : ℕ → ℕ) (v sum : ℕ) (e : Edge)
    → (e.to ≡ v → w e.from ≡ w' e.from)
    → with_edge nodes w v sum e ≡ with_edge nodes w' v sum e
with_edge-same nodes w w' v sum e same =
    elim (cases_eq e.to v) [
      | inl is ↦ rw (same is) refl
      | inr ne ↦ rw (ne_eqb e.to v ne) refl
    ]

fold-same :
    (nodes : List NodeDef) (w w' : ℕ → ℕ) (v sum : ℕ) (edges : List Edge)
    → All (λ e. e.to ≡ v → w e.from ≡ w' e.from) edges
    → fold (with_edge nodes w v) sum edges ≡ fold (with_edge nodes w' v) sum edges
fold-same nodes w w' v sum [] same = refl
fold-same nodes w w' v sum (e ∷ edges) same =
    let head : with_edge nodes w v sum e ≡ with_edge nodes w' v sum e = with_edge-same nodes w w' v sum e (All-head (λ (x : Edge). x.to ≡ v → w x.from ≡ w' x.from) e edges same) in
    let tail : fold (with_edge nodes w v) (with_edge nodes w' v sum e) edges ≡ fold (with_edge nodes w' v) (with_edge nodes w' v sum e) edges =
    fold-same nodes w w' v (with_edge nodes w' v sum e) edges (All-tail (λ (x : Edge). x.to ≡ v → w x.from ≡ w' x.from) e edges same) in
    ap (λ (s : ℕ). fold (with_edge nodes w v) s edges) head ∙ tail

-- a node weighs the same where its senders do
pub weighed-same :
    (nodes : List NodeDef) (edges : List Edge) (w w' : ℕ → ℕ) (v : ℕ)
    → All (λ e. e.to ≡ v → w e.from ≡ w' e.from) edges
    → weighed nodes edges w v ≡ weighed nodes edges w' v
weighed-same nodes edges w w' v same = rw (fold-same nodes w w' v 0 edges same) refl

pub weight_after-suc :
    (nodes : List NodeDef) (edges : List Edge) (k v : ℕ) → weight_after nodes edges (suc k) v ≡ weighed nodes edges (weight_after nodes edges k) v
unfolding weight_after
weight_after-suc nodes edges k v = refl

-- a sum of weights that agree on its nodes
pub weight_from-same :
    (w w' : ℕ → ℕ) (v : ℕ) (nodes : List NodeDef)
    → ((u : ℕ) → u < v + length nodes → w u ≡ w' u)
    → weight_from w v nodes ≡ weight_from w' v nodes
weight_from-same w w' v [] same = refl
weight_from-same w w' v (n ∷ nodes) same =
    let here : w v ≡ w' v = same v (omega arith) in
    let rest : weight_from w (v + 1) nodes ≡ weight_from w' (v + 1) nodes = weight_from-same w w' (v + 1) nodes (λ u lt. same u (omega (arith, lt))) in
    rw (here, rest) refl
