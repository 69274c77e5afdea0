-- The masks of children, and of the nodes below each node, as paths over the edges.
use Rattle.std.proofs.Common.{◌≡◌, ℕ, ◌<◌, ◌↔◌, arith, List}
use Rattle.std.specs.Prelude.{All, Result, Ok, Err, IfErr, IsErrAnd}
use Rattle.flow_dag.specs.declared.edge.Edge.{Edge}
use Rattle.flow_dag.specs.Rows.{RowHas}
use Rattle.flow_dag.specs.Paths.{Reaches, IsAcyclic}
use Rattle.flow_dag.specs.Edges.{HasEdge, IsInside, HaveDistinctEnds}
use Rattle.flow_dag.specs.Order.{IsTopologicalOrder}
use Rattle.flow_dag.specs.Fault.{IsFaultOf}
use Rattle.flow_dag.specs.declared.fault.DagFault.{DagFault}
use Rattle.flow_dag.specs.declared.fault.DagFault.TheVariants.{NoMemory}
use Rattle.flow_dag.proofs.OrderLemmas.{IsTopologicalOrder-fewer}
use Rattle.flow_dag.proofs.PathLemmas.{Reaches-map, Reaches-trans, Reaches-first_below, Reaches-edge}

pub HasEdge-inside : (n : ℕ) (edges : List Edge) → All (IsInside n) edges → (a b : ℕ) → HasEdge edges a b → (a < n) × (b < n)
HasEdge-inside n edges all a b (k, e, lt, is, j) =
    let within : IsInside n e = let h = all k e lt in rw is at h in
    (omega (arith, within, j), omega (arith, within, j))

pub RowHas-paths :
    (child below : List ℕ) (edges : List Edge) → ((a b : ℕ) → RowHas child a b ↔ HasEdge edges a b) →
    ((a b : ℕ) → RowHas below a b ↔ Reaches (RowHas child) a b) →
    (a b : ℕ) → RowHas below a b ↔ Reaches (HasEdge edges) a b
RowHas-paths child below edges same closed a b = (
  λ h. Reaches-map (RowHas child) (HasEdge edges) (λ x y e. (same x y).0 e) a b ((closed a b).0 h),
  λ r. (closed a b).1 (Reaches-map (HasEdge edges) (RowHas child) (λ x y e. (same x y).1 e) a b r),
)

pub RowHas-trans :
    (E : ℕ → ℕ → Type 0) (below : List ℕ) → ((a b : ℕ) → RowHas below a b ↔ Reaches E a b) →
    (a b c : ℕ) → RowHas below a b → RowHas below b c → RowHas below a c
RowHas-trans E below is a b c h g = (is a c).1 (Reaches-trans E a b c ((is a b).0 h) ((is b c).0 g))

pub IsAcyclic-from_rows :
    (n : ℕ) (edges : List Edge) (below : List ℕ) → All (IsInside n) edges →
    ((a b : ℕ) → RowHas below a b ↔ Reaches (HasEdge edges) a b) → ((a : ℕ) → a < n → RowHas below a a → ⊥) → IsAcyclic (HasEdge edges)
IsAcyclic-from_rows n edges below inside over none a r =
    none a (Reaches-first_below (HasEdge edges) n (λ x y e. (HasEdge-inside n edges inside x y e).0) a a r) ((over a a).1 r)

pub IsTopologicalOrder-edges :
    (n : ℕ) (edges : List Edge) (order below : List ℕ) → ((a b : ℕ) → RowHas below a b ↔ Reaches (HasEdge edges) a b) →
    IsTopologicalOrder (RowHas below) n order → IsTopologicalOrder (HasEdge edges) n order
IsTopologicalOrder-edges n edges order below over =
    IsTopologicalOrder-fewer (RowHas below) (HasEdge edges) n order (λ a b e. (over a b).1 (Reaches-edge (HasEdge edges) a b e))

pub IsFaultOf-NoMemory :
    {T : Type 0} (n : ℕ) (edges : List Edge) (r : Result T DagFault) → All (IsInside n) edges → HaveDistinctEnds edges → IsAcyclic (HasEdge edges) →
    IsErrAnd r (λ fault. fault ≡ NoMemory) → IfErr r (IsFaultOf n edges)
IsFaultOf-NoMemory n edges (Ok v) inside distinct acyclic is = tt
IsFaultOf-NoMemory n edges (Err e) inside distinct acyclic is = rw is (inside, distinct, acyclic)
