-- Two plans for the same are equal.
use Rattle.std.proofs.Common.{◌≡◌, ◌∙◌, ◌↔◌, ℕ, List, sym, subst, Some, slice_get}
use Rattle.flow_dag.specs.declared.edge.Edge.{Edge}
use Rattle.flow_dag.specs.Edges.{HasEdge}
use Rattle.flow_dag.specs.Masks.{Has}
use Rattle.cover_planner.specs.Cover.{InOnePart, IsCoveredEdge, IsCoveredNode, IsHead, MarksEdges}
use Rattle.cover_planner.specs.Members.{IsMember}
use Rattle.cover_planner.specs.Parts.{IsNumbered}
use Rattle.cover_planner.specs.Plan.{IsCover, IsPlan}
use Rattle.cover_planner.specs.declared.cover.Plan.{Plan}
use Rattle.flow_laws.specs.Determined.{NumbersAllNodes}
use Rattle.flow_laws.proofs.MaskLemmas.{holds_or_not, one_mask}
use Rattle.flow_laws.proofs.NumberLemmas.{one_numbering}

plan_of_fields : (p q : Plan) → p.asked ≡ q.asked → p.members ≡ q.members → p.nodes ≡ q.nodes → p.edges ≡ q.edges → p.heads ≡ q.heads → p.part ≡ q.part → p ≡ q
plan_of_fields p q a m n e h r = λ i. record { asked = a i; members = m i; nodes = n i; edges = e i; heads = h i; part = r i }

-- members with their cover determine the plan
module _ (edges : List Edge) (p q : Plan) (asked : p.asked ≡ q.asked) (members : p.members ≡ q.members) (f : IsCover edges p) (g : IsCover edges q)
    (long : NumbersAllNodes p) (also : NumbersAllNodes q)
  where
    marks : MarksEdges edges (IsCoveredEdge (HasEdge edges) (Has p.members)) q.edges
    marks = subst (λ (m : ℕ). MarksEdges edges (IsCoveredEdge (HasEdge edges) (Has m)) q.edges) (sym members) g.covered

    edges_are : p.edges ≡ q.edges
    edges_are = one_mask (λ i. (e : Edge) × (slice_get edges i ≡ Some e) × IsCoveredEdge (HasEdge edges) (Has p.members) e.from e.to) p.edges q.edges f.covered marks

    covers_nodes : (a : ℕ) → Has q.nodes a ↔ IsCoveredNode (HasEdge edges) (Has p.members) a
    covers_nodes = subst (λ (m : ℕ). (a : ℕ) → Has q.nodes a ↔ IsCoveredNode (HasEdge edges) (Has m) a) (sym members) g.nodes

    nodes_are : p.nodes ≡ q.nodes
    nodes_are = one_mask (IsCoveredNode (HasEdge edges) (Has p.members)) p.nodes q.nodes f.nodes covers_nodes

    holds_heads : (a : ℕ) → Has q.heads a ↔ IsHead (HasEdge edges) (Has p.members) a
    holds_heads = subst (λ (m : ℕ). (a : ℕ) → Has q.heads a ↔ IsHead (HasEdge edges) (Has m) a) (sym members) g.heads

    heads_are : p.heads ≡ q.heads
    heads_are = one_mask (IsHead (HasEdge edges) (Has p.members)) p.heads q.heads f.heads holds_heads

    numbered : IsNumbered (Has p.nodes) (InOnePart (HasEdge edges) (Has p.members)) q.part
    numbered =
        subst (λ (n : ℕ). IsNumbered (Has n) (InOnePart (HasEdge edges) (Has p.members)) q.part) (sym nodes_are)
        (subst (λ (m : ℕ). IsNumbered (Has q.nodes) (InOnePart (HasEdge edges) (Has m)) q.part) (sym members) g.parts)

    part_is : p.part ≡ q.part
    part_is = one_numbering (Has p.nodes) (InOnePart (HasEdge edges) (Has p.members)) (holds_or_not p.nodes) p.part q.part f.parts numbered long also

    pub one_cover : p ≡ q
    one_cover = plan_of_fields p q asked members nodes_are edges_are heads_are part_is

pub one_plan : (edges : List Edge) (splits copies : ℕ → Type 0) (asked : ℕ) (p q : Plan) → NumbersAllNodes p → NumbersAllNodes q
    → IsPlan edges splits copies asked p → IsPlan edges splits copies asked q → p ≡ q
one_plan edges splits copies asked p q long also f g =
    one_cover edges p q (f.asks ∙ sym g.asks) (one_mask (IsMember (HasEdge edges) (Has asked) splits copies) p.members q.members f.members g.members) f.cover g.cover long also
