-- What may be put on the lanes of the sources.
use Rattle.std.proofs.Common.{◌≡◌, ◌∙◌, ◌+◌, ◌++◌, ◌∷◌, ℕ, List, [], refl, sym, subst, ap, true, false, None, Some, Option, map, slice_get}
use Rattle.std.specs.Prelude.{slice_set}
use Rattle.std.proofs.lemmas.Option.{same_Some, slice_get-get_or}
use Rattle.flow_dag.specs.Edges.{HasEdge}
use Rattle.flow_dag.specs.Graph.{IsEdge}
use Rattle.flow_dag.specs.declared.edge.Edge.{Edge}
use Rattle.flow_dag.specs.declared.graph.Graph.{Graph}
use Rattle.jobs.specs.Law.{IsLawful}
use Rattle.jobs.specs.Nodes.{is_source_node}
use Rattle.jobs.specs.JobView.{JobView}
use Rattle.lane_core.specs.Steady.{Agrees, ComesTo, HasComeTo, MayFollow}
use Rattle.lane_core.proofs.SteadyLemmas.{MayFollow-last}
use Rattle.sink_journal.specs.declared.journal.Feed.{Feed}
use Rattle.sink_journal.specs.declared.journal.Feed.TheVariants.{Fed}
use Rattle.tuple_trace.specs.Counts.{Rose}
use Rattle.tuple_trace.specs.declared.row.Row.{Row}
use Rattle.tuple_trace.specs.declared.tuple.Item.{Item}
use Rattle.tuple_trace.specs.declared.tuple.Item.TheVariants.{Carry, Last, Mark}
use Rattle.tuple_trace.specs.declared.tuple.Tuple.{Tuple}
use Rattle.tuple_trace.specs.declared.tuple.Visit.{Visit}
use Rattle.flow_model.specs.Agreement.{IsGraphOf}
use Rattle.flow_model.specs.Feeding.{fed_tuple}
use Rattle.flow_model.specs.Lanes.{is_same_sender, lanes, senders}
use Rattle.flow_model.specs.declared.topology.Lane.{Lane}
use Rattle.flow_model.proofs.ElementLemmas.{IsIn, all_of_at, in_filter, in_of_place}
use Rattle.flow_model.proofs.JobLemmas.{unentered}
use Rattle.flow_model.proofs.LaneLemmas.{LaneIs, lane_is}
use Rattle.flow_model.proofs.LaneLemmas.{sender_source}
use Rattle.coordinator.specs.Views.{FeederIs}
use Rattle.lane_core.specs.Lane.{EndpointIs}
use Rattle.coordinator.specs.Feeding.{IsEndpointOf, fed_lanes}
use Rattle.coordinator.specs.Steps.{Feeds}
use Rattle.coordinator.specs.Turning.{IsLaneOfRow}
use Rattle.coordinator.specs.declared.feeding.FeedTurn.TheVariants.{Idle, Moved}

pub no_sender : (sender : Option ℕ) → is_same_sender None sender ≡ true → sender ≡ None
no_sender None e = refl
no_sender (Some s) e = absurd (cc)

-- the feeder sends on these lanes
pub fed_by : (job : JobView) (place : ℕ) (lane : Lane) → slice_get (fed_lanes job) place ≡ Some lane → lane.sender ≡ None
fed_by job place lane g =
    no_sender lane.sender (in_filter (λ (l : Lane). is_same_sender None l.sender) lane (lanes job) (in_of_place lane (fed_lanes job) place g)).1

-- and they begin at sources
from_source : (job : JobView) (place number : ℕ) (lane : Lane) (edge : Edge) → slice_get (fed_lanes job) place ≡ Some lane → slice_get (lanes job) number ≡ Some lane → slice_get job.edges lane.edge ≡ Some edge
    → is_source_node (slice_get job.nodes edge.from) ≡ true
from_source job place number lane edge g n e =
    let is : LaneIs job lane = lane_is job number lane n in
    let same : is.edge ≡ edge = same_Some is.edge edge (sym is.edge_is ∙ e) in
    sender_source job edge.from (subst (λ s. IsIn s (senders job edge.from)) (fed_by job place lane g) (subst (λ (x : Edge). IsIn lane.sender (senders job x.from)) same is.sends))

pub unled : (job : JobView) (node : ℕ) → IsLawful job → is_source_node (slice_get job.nodes node) ≡ true → (a : ℕ) → ¬ HasEdge job.edges a node
unled job node law source a (i, edge, lt, at, (from, to)) =
    let g : slice_get job.edges i ≡ Some edge = slice_get-get_or job.edges i edge lt ∙ ap Some at in
    let k : is_source_node (slice_get job.nodes node) ≡ false = subst (λ v. is_source_node (slice_get job.nodes v) ≡ false) to (unentered job law i edge g) in
    cc

pub agrees_new : (t : Tuple) (x : Item) → t.trace ≡ [] → Agrees x (Carry t)
agrees_new t (Carry u) e = tt
agrees_new t (Mark r c) e = rw e (all_of_at _ [] (λ x i. absurd i))
agrees_new t Last e = tt

-- a tuple that was nowhere yet may follow whatever was sent
pub may_feed : (job : JobView) (graph : Graph) (place : ℕ) (lane : Lane) (out : EndpointIs)
    (t : Tuple) → IsLawful job → IsGraphOf job graph → slice_get (fed_lanes job) place ≡ Some lane
    → IsEndpointOf job graph lane out.number out.origin → t.trace ≡ []
    → MayFollow out.origin out.items (Carry t)
may_feed job graph place lane out t law is g o e =
    (way, all_of_at (λ x. Agrees x (Carry t)) out.items (λ x i. agrees_new t x e))
  where
    none : (a : ℕ) → ¬ IsEdge graph a o.edge.from
    none a h =
        let source = from_source job place out.number lane o.edge g o.numbered o.edge_is in
        unled job o.edge.from law source a ((is a o.edge.from).0 h)

    along : (nodes : List ℕ) → nodes ≡ [] → ComesTo graph o.edge.from nodes
    along nodes e = rw e none

    way : HasComeTo out.origin (Carry t)
    way = rw o.origin_is (along (map (λ (v : Visit). v.node) t.trace) (ap (map (λ (v : Visit). v.node)) e))

-- and so may the end
pub may_end : (out : EndpointIs) → MayFollow out.origin out.items Last
may_end out = MayFollow-last out.origin out.items

-- ---- the next state

pub feed_idle : (job : JobView) (rows : List Row) (v old : FeederIs) (row : Row) (k : ℕ) (t back : Tuple) (outs : List EndpointIs) (fs : List Feed) → v ≡ old → fs ≡ v.feeds → slice_get rows v.row ≡ Some row → IsLaneOfRow job row k
    → t ≡ fed_tuple v.issued row → back ≡ t → (o : EndpointIs) × (n : ℕ) × (slice_get v.outs k ≡ Some o) × (outs ≡ slice_set v.outs k (record o { stalls = n })) × Rose o.stalls n
    → Feeds job rows old (record v { feeds = fs; outs = outs; held = Some back }) Idle
feed_idle job rows v old row k t back outs fs e f g is same kept (o, n, at, set, rose) =
    subst (λ s. Feeds job rows s (record v { feeds = fs; outs = outs; held = Some back }) Idle) e (
      row,
      k,
      o,
      n,
      g,
      is,
      at,
      rose,
      ap (λ x. record v { feeds = x; outs = outs; held = Some back }) f ∙ (ap (λ x. record v { outs = x; held = Some back }) set
          ∙ ap (λ (x : Tuple). record v { outs = slice_set v.outs k (record o { stalls = n }); held = Some x }) (kept ∙ same)),
    )

pub feed_moved : (job : JobView) (rows : List Row) (v old : FeederIs) (row : Row) (k : ℕ) (t : Tuple) (outs : List EndpointIs) (fs : List Feed) (h : Option Tuple) → v ≡ old → fs ≡ v.feeds ++ Fed (v.row + 1) ∷ [] → slice_get rows v.row ≡ Some row
    → IsLaneOfRow job row k → t ≡ fed_tuple v.issued row → h ≡ None → (o : EndpointIs) × (slice_get v.outs k ≡ Some o) × (outs ≡ slice_set v.outs k (record o { items = o.items ++ Carry t ∷ [] }))
    → Feeds job rows old (record v { feeds = fs; row = v.row + 1; outs = outs; held = h }) Moved
feed_moved job rows v old row k t outs fs h e f g is same none (o, at, set) =
    subst (λ s. Feeds job rows s (record v { feeds = fs; row = v.row + 1; outs = outs; held = h }) Moved) e (
      row,
      k,
      o,
      g,
      is,
      at,
      ap (λ x. record v { feeds = x; row = v.row + 1; outs = outs; held = h }) f
          ∙ (ap (λ x. record v { feeds = v.feeds ++ Fed (v.row + 1) ∷ []; row = v.row + 1; outs = x; held = h })
          (set ∙ ap (λ (s : Tuple). slice_set v.outs k (record o { items = o.items ++ Carry s ∷ [] })) same)
          ∙ ap (λ (x : Option Tuple). record v {
            feeds = v.feeds ++ Fed (v.row + 1) ∷ [];
            row = v.row + 1;
            outs = slice_set v.outs k (record o { items = o.items ++ Carry (fed_tuple v.issued row) ∷ [] });
            held = x;
          }) none),
    )

-- a row is copied in vain
pub feed_starved : (v old : FeederIs) (fs : List Feed) (h : Option Tuple) → v ≡ old → fs ≡ v.feeds → h ≡ v.held → record v { feeds = fs; held = h } ≡ old
feed_starved v old fs h e f same = ap (λ x. record v { feeds = x; held = h }) f ∙ (ap (λ x. record v { held = x }) same ∙ e)
