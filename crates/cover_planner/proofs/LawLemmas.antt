-- Paths between covered nodes, and what a cover says of sets of nodes and edges.
use Rattle.std.proofs.Common.{◌≡◌, ℕ, inl, inr, refl, subst, List, Bool, Some}
use Rattle.std.specs.Prelude.{IsTrue, slice_get}
use Rattle.flow_dag.specs.declared.edge.Edge.{Edge}
use Rattle.flow_dag.specs.Masks.{Has}
use Rattle.flow_dag.specs.Paths.{Leads, Reaches, IsOrReaches}
use Rattle.flow_dag.specs.Edges.{HasEdge}
use Rattle.flow_dag.proofs.PathLemmas.{Reaches-last_step, IsOrReaches-here, IsOrReaches-edge}
use Rattle.cover_planner.specs.declared.cover.Plan.{Plan}
use Rattle.cover_planner.specs.Cover.{LiesOn, IsCoveredEdge, IsCoveredNode, IsHead, IsDownstream, IsUpstream}
use Rattle.cover_planner.specs.Plan.{IsCover, HoldsPaths, HasAllPaths, IsLeast}
use Rattle.cover_planner.proofs.CoverLemmas.{IsDownstream-on, IsUpstream-back, IsCoveredEdge-made, IsCoveredEdge-parts, LiesOn-around}

module _ (E : ℕ → ℕ → Type 0) (M : ℕ → Type 0) where
  pub IsCoveredNode-downstream : (a : ℕ) → IsCoveredNode E M a → IsDownstream E M a
  IsCoveredNode-downstream a (inl m) = inl m
  IsCoveredNode-downstream a (inr (b, inl out)) = (IsCoveredEdge-parts E M a b out).1
  IsCoveredNode-downstream a (inr (b, inr into)) =
      let (e, d, u) = IsCoveredEdge-parts E M b a into in
      IsDownstream-on E M b a d (IsOrReaches-edge E b a e)

  pub IsCoveredNode-upstream : (a : ℕ) → IsCoveredNode E M a → IsUpstream E M a
  IsCoveredNode-upstream a (inl m) = inl m
  IsCoveredNode-upstream a (inr (b, inl out)) =
      let (e, d, u) = IsCoveredEdge-parts E M a b out in
      IsUpstream-back E M a b u (IsOrReaches-edge E a b e)
  IsCoveredNode-upstream a (inr (b, inr into)) = (IsCoveredEdge-parts E M b a into).2

  -- an edge on the way from a covered node to a covered node
  pub IsCoveredEdge-between :
      (a b x y : ℕ) → IsCoveredNode E M a → IsCoveredNode E M b → IsOrReaches E a x → E x y → IsOrReaches E y b → IsCoveredEdge E M x y
  IsCoveredEdge-between a b x y ca cb before e after =
      IsCoveredEdge-made E M x y e (IsDownstream-on E M a x (IsCoveredNode-downstream a ca) before)
      (IsUpstream-back E M y b (IsCoveredNode-upstream b cb) after)

  pub IsCoveredEdge-on :
      (a b : ℕ) (path : List ℕ) → IsCoveredNode E M a → IsCoveredNode E M b → Leads E a b path → (x y : ℕ) → LiesOn x y path → IsCoveredEdge E M x y
  IsCoveredEdge-on a b path ca cb l x y on =
      let (before, e, after) = LiesOn-around E x y a b path l on in IsCoveredEdge-between a b x y ca cb before e after

  -- a node on the way from a covered node to a covered node
  pub IsCoveredNode-between : (a x b : ℕ) → IsCoveredNode E M a → Reaches E a x → IsOrReaches E x b → IsCoveredNode E M b → IsCoveredNode E M x
  IsCoveredNode-between a x b ca r w cb =
      let (c, before, e) = Reaches-last_step E a x r in inr (c, inr (IsCoveredEdge-between a b c x ca cb before e w))

  pub IsHead-not_reached : (a h : ℕ) → IsCoveredNode E M a → IsHead E M h → Reaches E a h → ⊥
  IsHead-not_reached a h ca head r =
      let (c, before, e) = Reaches-last_step E a h r in
      head.1 c (IsCoveredEdge-between a h c h ca head.0 before e (IsOrReaches-here E h h refl))

-- ---- the cover as sets of nodes and edges

pub HasAllPaths-cover : (edges : List Edge) (p : Plan) → IsCover edges p → HasAllPaths edges p
HasAllPaths-cover edges p cover = record {
  members = λ a m. (cover.nodes a).1 (inl m);
  paths = λ from to path f t l i e at on.
      let covered : IsCoveredEdge (HasEdge edges) (Has p.members) e.from e.to = (from, to, path, f, t, l, on) in
      ((cover.covered i).1 (e, at, covered), (cover.nodes e.from).1 (inr (e.to, inl covered)), (cover.nodes e.to).1 (inr (e.from, inr covered)));
}

module _ (E : ℕ → ℕ → Type 0) (M : ℕ → Type 0) (node : ℕ → Bool) (edge : ℕ → ℕ → Bool) (hold : HoldsPaths E M node edge) where
  edge_held : (a b : ℕ) → IsCoveredEdge E M a b → IsTrue (edge a b) × IsTrue (node a) × IsTrue (node b)
  edge_held a b (from, to, path, f, t, l, on) = hold.paths from to path f t l a b on

  node_held : (a : ℕ) → IsCoveredNode E M a → IsTrue (node a)
  node_held a (inl m) = hold.members a m
  node_held a (inr (b, inl out)) = (edge_held a b out).1
  node_held a (inr (b, inr into)) = (edge_held b a into).2

same_edge : (edges : List Edge) (i : ℕ) (e f : Edge) → slice_get edges i ≡ Some e → slice_get edges i ≡ Some f → f ≡ e
same_edge edges i e f p q = cc

pub IsLeast-cover : (edges : List Edge) (p : Plan) → IsCover edges p → IsLeast edges p
IsLeast-cover edges p cover node edge hold = (
  λ a h. node_held (HasEdge edges) (Has p.members) node edge hold a ((cover.nodes a).0 h),
  λ i e at h.
      let (f, at', covered) = (cover.covered i).0 h in
      let same : f ≡ e = same_edge edges i e f at at' in
      subst (λ (v : Edge). IsTrue (edge v.from v.to)) same (edge_held (HasEdge edges) (Has p.members) node edge hold f.from f.to covered).0,
)
