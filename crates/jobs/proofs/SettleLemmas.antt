-- Weights settle: a node at place p of a topological order has its weight from round p + 1 on.
use Rattle.std.proofs.Common.{◌≡◌, ◌<◌, ◌≤◌, ◌+◌, ℕ, List, All, length, Some, ap, inl, inr, sym, ◌∙◌, arith, zero, suc, slice_get, slice_index, slice_index_or, slice_set}
use Rattle.std.proofs.lemmas.Bool.{cases_eq}
use Rattle.std.proofs.lemmas.List.{get_or-set_other, get_or-set_same}
use Rattle.std.proofs.lemmas.Option.{slice_get-get_or, slice_get_within}
use Rattle.flow_dag.specs.declared.edge.Edge.{Edge}
use Rattle.flow_dag.specs.Dag.{DagView}
use Rattle.flow_dag.specs.Edges.{HasEdge, IsInside}
use Rattle.flow_dag.specs.Order.{IsTopologicalOrder, place_of}
use Rattle.flow_dag.proofs.EdgeLemmas.{HasEdge-at}
use Rattle.flow_dag.proofs.PlaceLemmas.{get_or-place_of, place_of-below, place_of-forward}
use Rattle.jobs.specs.declared.func.NodeDef.{NodeDef}
use Rattle.jobs.specs.Weights.{HasSettledWeights, weighed, weight_after}
use Rattle.jobs.specs.JobView.{JobView}
use Rattle.jobs.proofs.WeightLemmas.{weighed-same, weight_after-suc}

module _ (nodes : List NodeDef) (edges : List Edge) (n : ℕ) (order : List ℕ)
    (is_order : IsTopologicalOrder (HasEdge edges) n order) (inside : All (IsInside n) edges) where
  -- the senders of a node settle a round before it
  senders-stay :
      (k v : ℕ) → place_of order v < suc k
      → ((u : ℕ) → u < n → place_of order u < k → weight_after nodes edges k u ≡ weight_after nodes edges (suc k) u)
      → All (λ e. e.to ≡ v → weight_after nodes edges k e.from ≡ weight_after nodes edges (suc k) e.from) edges
  senders-stay k v late stays i d lt to =
      let e : Edge = slice_index_or edges i d in
      let ends : IsInside n e = inside i d lt in
      let edge : HasEdge edges e.from e.to = HasEdge-at edges i e (slice_get-get_or edges i d lt) in
      let before : place_of order e.from < place_of order e.to = place_of-forward (HasEdge edges) n order is_order e.from e.to ends.0 ends.1 edge in
      let before' : place_of order e.from < place_of order v = rw to at before in
      stays e.from ends.0 (omega (arith, before', late))

  -- from its place on, a node weighs in each round what it weighs in the next
  weight_after-stays : (k v : ℕ) → v < n → place_of order v < k → weight_after nodes edges k v ≡ weight_after nodes edges (suc k) v
  weight_after-stays zero v below late = absurd (omega arith)
  weight_after-stays (suc k) v below late =
      let same = weighed-same nodes edges (weight_after nodes edges k) (weight_after nodes edges (suc k)) v (senders-stay k v late (weight_after-stays k)) in
      weight_after-suc nodes edges k v ∙ same ∙ sym (weight_after-suc nodes edges (suc k) v)

  -- after as many rounds as there are nodes, every node weighs what its senders' weights make
  weight_after-settles : (v : ℕ) → v < n → weight_after nodes edges n v ≡ weighed nodes edges (weight_after nodes edges n) v
  weight_after-settles v below =
      weight_after-stays n v below (place_of-below (HasEdge edges) n order is_order v below) ∙ weight_after-suc nodes edges n v

  -- a node weighs what it weighs in the end, if the nodes before it in the order do
  pub weighed-in_order :
      (w : ℕ → ℕ) (i : ℕ) → i < n
      → ((k : ℕ) → k < i → w (slice_index order k) ≡ weight_after nodes edges n (slice_index order k))
      → weighed nodes edges w (slice_index order i) ≡ weight_after nodes edges n (slice_index order i)
  weighed-in_order w i less done =
      let v = slice_index order i in
      let below : v < n = is_order.inside i 0 (rw is_order.long less) in
      let senders : All (λ e. e.to ≡ v → w e.from ≡ weight_after nodes edges n e.from) edges = λ j d lt to.
      let e : Edge = slice_index_or edges j d in
      let ends : IsInside n e = inside j d lt in
      let edge : HasEdge edges e.from e.to = HasEdge-at edges j e (slice_get-get_or edges j d lt) in
      let place = place_of order e.from in
      let at : slice_index order place ≡ e.from = get_or-place_of (HasEdge edges) n order is_order e.from ends.0 in
      let within : place < n = place_of-below (HasEdge edges) n order is_order e.from ends.0 in
      let earlier : place < i = is_order.forward place i within less (rw at (rw to at edge)) in
      rw at at (done place earlier) in
      weighed-same nodes edges w (weight_after nodes edges n) v senders ∙ sym (weight_after-settles v below)

  -- what the nodes before place i of the order weigh in the end, those before the next place do once its node is weighed
  pub weigh-next :
      (ws : List ℕ) (i v : ℕ) → i < n → n ≤ length ws → slice_get order i ≡ Some v
      → ((k : ℕ) → k < i → slice_index ws (slice_index order k) ≡ weight_after nodes edges n (slice_index order k))
      → (k : ℕ) → k < i + 1 → slice_index (slice_set ws v (weighed nodes edges (slice_index ws) v)) (slice_index order k) ≡ weight_after nodes edges n (slice_index order k)
  weigh-next ws i v less room at done k early =
      let here : slice_index order i ≡ v = cc (at, slice_get-get_or order i 0 (rw is_order.long less)) in
      let within : v < length ws = let d = is_order.inside i 0 (rw is_order.long less) in omega (arith, rw here at d, room) in
      let x : ℕ = weighed nodes edges (slice_index ws) v in
      let weighs : x ≡ weight_after nodes edges n v = rw here at (weighed-in_order (slice_index ws) i less done) in
      let u : ℕ = slice_index order k in
      elim (cases_eq u v) [
        | inl is ↦ rw is (get_or-set_same ws v x 0 within ∙ weighs)
        | inr ne ↦
            let before : k < i = elim (cases_eq k i) [
              | inl is ↦ absurd (ne (ap (slice_index order) is ∙ here))
              | inr other ↦ omega (arith, early, other)
            ] in
            get_or-set_other ws v u x 0 ne ∙ done k before
      ]

  -- what is said of each node in the order, is said of each node
  pub each-in_order :
      (w : ℕ → ℕ) → ((k : ℕ) → k < n → w (slice_index order k) ≡ weight_after nodes edges n (slice_index order k))
      → (v : ℕ) → v < n → w v ≡ weight_after nodes edges n v
  each-in_order w done v below =
      let at : slice_index order (place_of order v) ≡ v = get_or-place_of (HasEdge edges) n order is_order v below in
      rw at at (done (place_of order v) (place_of-below (HasEdge edges) n order is_order v below))

pub HasSettledWeights-drawn : (job : JobView) (dag : DagView) → dag.nodes ≡ length job.nodes → dag.edges ≡ job.edges → HasSettledWeights job
HasSettledWeights-drawn job dag count edges v node at =
    let below : v < dag.nodes = rw count (slice_get_within job.nodes v node at) in
    let settled = weight_after-settles job.nodes dag.edges dag.nodes dag.order dag.lawful.ordered dag.lawful.inside v below in
    rw (count, edges) at settled
