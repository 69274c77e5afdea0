use Rattle.std.specs.Prelude.{◌≡◌, ℕ, ◌↔◌, List, Bool, IsTrue, Some, slice_get}
use Rattle.flow_dag.specs.declared.edge.Edge.{Edge}
use Rattle.flow_dag.specs.Masks.{Has}
use Rattle.flow_dag.specs.Paths.{Leads}
use Rattle.flow_dag.specs.Edges.{HasEdge}
use Rattle.cover_planner.specs.declared.cover.Plan.{Plan}
use Rattle.cover_planner.specs.Members.{IsMember}
use Rattle.cover_planner.specs.Cover.{LiesOn, IsCoveredEdge, IsCoveredNode, IsHead, InOnePart, MarksEdges}
use Rattle.cover_planner.specs.Parts.{IsNumbered}

-- the plan has the cover of its members, whatever these are
pub record IsCover (edges : List Edge) (p : Plan) : Type 0 where
  pub covered : MarksEdges edges (IsCoveredEdge (HasEdge edges) (Has p.members)) p.edges
  pub nodes : (a : ℕ) → Has p.nodes a ↔ IsCoveredNode (HasEdge edges) (Has p.members) a
  pub heads : (a : ℕ) → Has p.heads a ↔ IsHead (HasEdge edges) (Has p.members) a
  pub parts : IsNumbered (Has p.nodes) (InOnePart (HasEdge edges) (Has p.members)) p.part

-- the plan has the members of the asked nodes, where `splits` may make pieces of a tuple and
-- `copies` send copies of it, and their cover
pub record IsPlan (edges : List Edge) (splits copies : ℕ → Type 0) (asked : ℕ)
    (p : Plan) : Type 0 where
  pub asks : p.asked ≡ asked
  pub members : (a : ℕ) → Has p.members a ↔ IsMember (HasEdge edges) (Has asked) splits copies a
  pub cover : IsCover edges p

-- the tests pass the members, and each edge of each path from a member to a member, with its ends
pub record HoldsPaths (E : ℕ → ℕ → Type 0) (M : ℕ → Type 0) (node : ℕ → Bool)
    (edge : ℕ → ℕ → Bool) : Type 0 where
  pub members : (a : ℕ) → M a → IsTrue (node a)
  pub paths :
      (from to : ℕ) (path : List ℕ) → M from → M to → Leads E from to path →
      (a b : ℕ) → LiesOn a b path → IsTrue (edge a b) × IsTrue (node a) × IsTrue (node b)

-- the plan has the members, and each edge of each path from a member to a member, with its ends
pub record HasAllPaths (edges : List Edge) (p : Plan) : Type 0 where
  pub members : (a : ℕ) → Has p.members a → Has p.nodes a
  pub paths :
      (from to : ℕ) (path : List ℕ) → Has p.members from → Has p.members to →
      Leads (HasEdge edges) from to path →
      (i : ℕ) (e : Edge) → slice_get edges i ≡ Some e → LiesOn e.from e.to path →
      Has p.edges i × Has p.nodes e.from × Has p.nodes e.to

-- whichever nodes and edges hold the members and all paths between them hold what the plan has
abbrev pub IsLeast : List Edge → Plan → Type 0
IsLeast edges p =
    (node : ℕ → Bool) (edge : ℕ → ℕ → Bool) → HoldsPaths (HasEdge edges) (Has p.members) node edge →
    ((a : ℕ) → Has p.nodes a → IsTrue (node a))
    × ((i : ℕ) (e : Edge) → slice_get edges i ≡ Some e → Has p.edges i → IsTrue (edge e.from e.to))
