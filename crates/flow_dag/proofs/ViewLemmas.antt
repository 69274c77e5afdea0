-- Two views of a graph are equal where their nodes, edges and orders are.
use Rattle.std.proofs.Props.{props}
use Rattle.std.proofs.Common.{◌≡◌, ℕ, List, ap, subst}
use Rattle.flow_dag.specs.declared.edge.Edge.{Edge}
use Rattle.flow_dag.specs.Dag.{IsDag, DagView}

IsDag-prop : (n : ℕ) (es : List Edge) (o : List ℕ) → IsProp (IsDag n es o)
IsDag-prop n es o = hlevel props

abbrev view_of : (n : ℕ) (es : List Edge) (o : List ℕ) → IsDag n es o → DagView
view_of n es o law = record { nodes = n; edges = es; order = o; lawful = law }

pub DagView-same : (d e : DagView) → d.nodes ≡ e.nodes → d.edges ≡ e.edges → d.order ≡ e.order → d ≡ e
DagView-same d e nodes edges order =
    subst (λ (v : ℕ). (law : IsDag v e.edges e.order) → view_of d.nodes d.edges d.order d.lawful ≡ view_of v e.edges e.order law) nodes
    (subst (λ (v : List Edge). (law : IsDag d.nodes v e.order) → view_of d.nodes d.edges d.order d.lawful ≡ view_of d.nodes v e.order law) edges
    (subst (λ (v : List ℕ). (law : IsDag d.nodes d.edges v) → view_of d.nodes d.edges d.order d.lawful ≡ view_of d.nodes d.edges v law) order
    (λ law. ap (view_of d.nodes d.edges d.order) (IsDag-prop d.nodes d.edges d.order d.lawful law)))) e.lawful
