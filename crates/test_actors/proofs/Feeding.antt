-- A tuple that was nowhere may be put on each lane from a source.
use Rattle.std.proofs.Common.{◌≡◌, ◌∙◌, ℕ, List, [], ◌∷◌, ◌++◌, true, refl, sym, ap, subst, length, map, Option, Some, None, slice_get}
use Rattle.std.proofs.lemmas.Option.{same_Some}
use Rattle.flow_dag.specs.declared.edge.Edge.{Edge}
use Rattle.flow_dag.specs.declared.graph.Graph.{Graph}
use Rattle.jobs.specs.Law.{IsLawful}
use Rattle.jobs.specs.Nodes.{is_source_node}
use Rattle.jobs.specs.JobView.{JobView}
use Rattle.lane_core.specs.Steady.{Agrees, ComesTo, HasComeTo, MayFollow}
use Rattle.lane_core.specs.declared.form.Origin.{Origin}
use Rattle.tuple_trace.specs.declared.tuple.Item.{Item}
use Rattle.tuple_trace.specs.declared.tuple.Item.TheVariants.{Carry}
use Rattle.tuple_trace.specs.declared.tuple.Tuple.{Tuple}
use Rattle.tuple_trace.specs.declared.tuple.Visit.{Visit}
use Rattle.flow_model.specs.Agreement.{IsGraphOf}
use Rattle.flow_model.specs.Lanes.{lanes_that, senders}
use Rattle.flow_model.specs.declared.topology.Lane.{Lane}
use Rattle.flow_model.proofs.ElementLemmas.{IsIn, all_of_at, in_of_place}
use Rattle.flow_model.proofs.LaneLemmas.{in_lanes_that, lane_is, sender_source}
use Rattle.sink_journal.proofs.SmallLemmas.{get_mapped}
use Rattle.coordinator.specs.Starts.{AreNewOuts}
use Rattle.flow_model.specs.NewEndpoint.{IsNewEndpoint}
use Rattle.lane_core.specs.Lane.{EndpointIs}
use Rattle.flow_crew.specs.Sides.{feeder_sends}
use Rattle.test_actors.specs.Fed.{IsUnled}
use Rattle.coordinator.proofs.Laying.{agrees_new, no_sender, unled}

-- the endpoint of a lane from a source begins where no edge leads
fed_end : (job : JobView) (graph : Graph) (out : EndpointIs) → IsLawful job → IsGraphOf job graph → IsNewEndpoint job graph out → IsIn out.number (lanes_that feeder_sends job) → IsUnled out.origin
fed_end job graph out law is new i =
    let (lane, at, fed) = in_lanes_that feeder_sends job out.number i in
    let same : new.lane ≡ lane = same_Some new.lane lane (sym new.numbered ∙ at) in
    let k = lane_is job out.number new.lane new.numbered in
    let edge : k.edge ≡ new.edge = same_Some k.edge new.edge (sym k.edge_is ∙ new.edge_is) in
    let none : new.lane.sender ≡ None = ap (λ (l : Lane). l.sender) same ∙ no_sender lane.sender fed in
    let source : is_source_node (slice_get job.nodes k.edge.from) ≡ true = sender_source job k.edge.from (subst (λ (o : Option ℕ). IsIn o (senders job k.edge.from)) none k.sends) in
    let here : is_source_node (slice_get job.nodes new.edge.from) ≡ true = subst (λ (e : Edge). is_source_node (slice_get job.nodes e.from) ≡ true) edge source in
    subst IsUnled (sym new.origin_is) (λ a h. unled job new.edge.from law here a ((is a new.edge.from).0 h))

pub all_unled : (job : JobView) (outs : List EndpointIs) (k : ℕ) (out : EndpointIs) → IsLawful job → AreNewOuts job outs → slice_get outs k ≡ Some out → IsUnled out.origin
all_unled job outs k out law are g =
    fed_end job are.graph out law are.graph_is (are.new k out g) (subst (IsIn out.number) are.numbers_are (in_of_place out.number (map (λ (o : EndpointIs). o.number) outs) k (get_mapped (λ (o : EndpointIs). o.number) outs k out g)))

-- the last item of a list
pub last_place : {A B : Type 0} (f : A → B) (xs ys : List A) (x : A) → ys ≡ xs ++ x ∷ [] → slice_get (map f ys) (length xs) ≡ Some (f x)
last_place {A = A} f xs ys x e = ap (λ l. slice_get (map f l) (length xs)) e ∙ get_mapped f (xs ++ x ∷ []) (length xs) x (at xs)
  where
    at : (zs : List A) → slice_get (zs ++ x ∷ []) (length zs) ≡ Some x
    at [] = refl
    at (z ∷ zs) = at zs

pub may_feed : (origin : Origin) (sent : List Item) (t : Tuple) → IsUnled origin → t.trace ≡ [] → MayFollow origin sent (Carry t)
may_feed origin sent t none e = (way, all_of_at (λ x. Agrees x (Carry t)) sent (λ x i. agrees_new t x e))
  where
    along : (nodes : List ℕ) → nodes ≡ [] → ComesTo origin.graph origin.from nodes
    along nodes f = rw f none

    way : HasComeTo origin (Carry t)
    way = along (map (λ (v : Visit). v.node) t.trace) (ap (map (λ (v : Visit). v.node)) e)
