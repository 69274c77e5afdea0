-- What a worker or the feeder puts on its lanes out.
use Rattle.std.proofs.Common.{◌≡◌, ◌∙◌, ◌<◌, ◌+◌, ℕ, inl, inr, None, List, [], ◌∷◌, Bool, true, false, cond, filter, length, refl, sym, ap, subst, arith, Option, Some, slice_get}
use Rattle.std.specs.Prelude.{option_map}
use Rattle.std.specs.List.{cons_option}
use Rattle.std.proofs.lemmas.Bool.{eq-eqb}
use Rattle.std.proofs.lemmas.Option.{same_Some}
use Rattle.flow_dag.specs.declared.edge.Edge.{Edge}
use Rattle.jobs.specs.Law.{IsLawful}
use Rattle.jobs.specs.Nodes.{is_source, is_source_node}
use Rattle.jobs.specs.JobView.{JobView}
use Rattle.jobs.specs.declared.func.NodeDef.{NodeDef}
use Rattle.operators.specs.Lanes.{worker_along}
use Rattle.tuple_trace.specs.declared.tuple.Item.{Item}
use Rattle.tuple_trace.specs.declared.tuple.Tuple.{Tuple}
use Rattle.flow_model.specs.Lanes.{is_same_lane, is_sender, lane_along, lane_of, lanes, lanes_out, senders}
use Rattle.flow_model.specs.SetupView.{Worker}
use Rattle.flow_model.specs.Replay.{items_on, put_on_each}
use Rattle.flow_model.specs.Topology.{first_worker}
use Rattle.flow_model.specs.declared.topology.Lane.{Lane}
use Rattle.flow_model.proofs.ElementLemmas.{AreDistinct, IsIn, distinct_filter, filter_in, in_filter, in_of_place}
use Rattle.flow_model.proofs.FitLemmas.{HasPortEdge, port_edge, source_port}
use Rattle.flow_model.proofs.LaneLemmas.{lane_self, lanes_distinct, same_lane}
use Rattle.flow_model.proofs.TopologyLemmas.{length-feeder}
use Rattle.flow_model.proofs.RouteLemmas.{is_reached}

-- ---- an item on each of some lanes

pub none_on : (item : Item) (lane : Lane) (xs : List Lane) → ¬ IsIn lane xs → items_on lane (put_on_each item xs) ≡ []
none_on item lane [] out = refl
none_on item lane (x ∷ xs) out = go (is_same_lane (Some x) lane) refl (none_on item lane xs (λ i. out (inr i)))
  where
    go : (b : Bool) → is_same_lane (Some x) lane ≡ b → items_on lane (put_on_each item xs) ≡ [] → cons_option (cond b (Some item) None) (items_on lane (put_on_each item xs)) ≡ []
    go true same rest = absurd (out (inl (sym (same_Some x lane (same_lane (Some x) lane same)))))
    go false other rest = rest

-- of distinct lanes, each gets the item once
pub one_on : (item : Item) (lane : Lane) (xs : List Lane) → AreDistinct xs → IsIn lane xs → items_on lane (put_on_each item xs) ≡ item ∷ []
one_on item lane [] distinct there = absurd there
one_on item lane (x ∷ xs) distinct there = go (is_same_lane (Some x) lane) refl there (one_on item lane xs distinct.1)
  where
    go : (b : Bool) → is_same_lane (Some x) lane ≡ b → IsIn lane (x ∷ xs) → (IsIn lane xs → items_on lane (put_on_each item xs) ≡ item ∷ [])
        → cons_option (cond b (Some item) None) (items_on lane (put_on_each item xs)) ≡ item ∷ []
    go true same i rest =
        let equal : x ≡ lane = same_Some x lane (same_lane (Some x) lane same) in
        ap (λ (later : List Item). item ∷ later) (none_on item lane xs (subst (λ (l : Lane). ¬ IsIn l xs) equal distinct.0))
    go false other (inl equal) rest = absurd (let same : is_same_lane (Some x) lane ≡ true = subst (λ (l : Lane). is_same_lane (Some l) lane ≡ true) equal (lane_self lane) in cc)
    go false other (inr i) rest = rest i

pub out_distinct : (job : JobView) (w : ℕ) → AreDistinct (lanes_out job w)
out_distinct job w = distinct_filter (λ (lane : Lane). is_sender w lane.sender) (lanes job) (lanes_distinct job)

pub on_passing : (test : Lane → Bool) (item : Item) (lane : Lane) (xs : List Lane) → AreDistinct xs → IsIn lane xs → items_on lane (put_on_each item (filter test xs)) ≡ cond (test lane) (item ∷ []) []
on_passing test item lane xs distinct there = go (test lane) refl
  where
    go : (b : Bool) → test lane ≡ b → items_on lane (put_on_each item (filter test xs)) ≡ cond b (item ∷ []) []
    go true is = one_on item lane (filter test xs) (distinct_filter test xs distinct) (filter_in test lane xs there is)
    go false is = none_on item lane (filter test xs) (λ i. let passes = (in_filter test lane xs i).1 in cc)

-- a lane from a worker is one of its lanes out
pub goes_out : (job : JobView) (n : ℕ) (l : Lane) (s : ℕ) → slice_get (lanes job) n ≡ Some l → l.sender ≡ Some s → IsIn l (lanes_out job s)
goes_out job n l s g e =
    filter_in (λ (lane : Lane). is_sender s lane.sender) l (lanes job) (in_of_place l (lanes job) n g) (ap (is_sender s) e ∙ eq-eqb s s refl)

-- ---- lanes of sources

-- a node that is a source
pub record IsSource (job : JobView) (node : ℕ) : Type 0 where
  def : NodeDef
  node_is : slice_get job.nodes node ≡ Some def
  source : is_source def.func ≡ true

pub is_source_at : (job : JobView) (node : ℕ) → is_source_node (slice_get job.nodes node) ≡ true → IsSource job node
is_source_at job node e = go (slice_get job.nodes node) refl e
  where
    go : (o : Option NodeDef) → slice_get job.nodes node ≡ o → is_source_node o ≡ true → IsSource job node
    go None g t = absurd (cc)
    go (Some def) g t = record { def = def; node_is = g; source = t }

-- the feeder is the one sender of a source
pub feeder_alone : (job : JobView) (node : ℕ) → is_source_node (slice_get job.nodes node) ≡ true → (0 < length (senders job node)) × (slice_get (senders job node) 0 ≡ Some None)
feeder_alone job node e =
    let is = is_source_at job node e in
    let one = length-feeder job node is.def is.node_is is.source in
    (omega (arith, one), rw e refl)

-- a lane leads on from every source
pub lane_from_source : (job : JobView) (node : ℕ) (tuple : Tuple) → IsLawful job → is_source_node (slice_get job.nodes node) ≡ true → lane_of job None node 0 tuple ≡ None → ⊥
lane_from_source job node tuple law e none = go (is_source_at job node e)
  where
    nowhere : HasPortEdge job.edges node 0 0 → ⊥
    nowhere out =
        let at : out.at ≡ out.number = omega (arith, out.number_is) in
        let reached = is_reached job out.number out.edge tuple (worker_along job out.number tuple) law (ap (slice_get job.edges) (sym at) ∙ out.edge_is) refl in
        let lane : Lane = record { edge = out.number; sender = None; receiver = first_worker job out.edge.to + worker_along job out.number tuple } in
        let found : lane_of job None node 0 tuple ≡ Some lane =
        ap (λ (o : Option (ℕ × Edge)). lane_along job None o tuple) out.found
        ∙ ap (option_map (λ (who : Worker). record { edge = out.number; sender = None; receiver = who.number })) reached.reached in
        absurd (let clash = sym none ∙ found in cc)

    go : IsSource job node → ⊥
    go is = nowhere (port_edge job.edges node 0 0 (source_port job.edges node is.def.func is.source (law.ports node is.def is.node_is)))
