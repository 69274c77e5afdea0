-- A worker at the beginning of a run.
use Rattle.std.proofs.Common.{◌≡◌, ◌∙◌, ◌++◌, ◌<◌, ◌≤◌, ℕ, inl, inr, List, [], ◌∷◌, Bool, true, false, map, length, refl, sym, ap, subst, arith, Option, Some, None, slice_get}
use Rattle.std.specs.FinMap.{empty}
use Rattle.std.specs.Prelude.{IfSome}
use Rattle.std.proofs.lemmas.List.{length-map}
use Rattle.std.proofs.lemmas.Option.{same_Some, slice_get_within}
use Rattle.std.proofs.lemmas.Simd.{map-map}
use Rattle.flow_dag.specs.declared.edge.Edge.{Edge}
use Rattle.flow_dag.specs.declared.graph.Graph.{Graph}
use Rattle.jobs.specs.Law.{IsLawful}
use Rattle.jobs.specs.JobView.{JobView}
use Rattle.jobs.specs.declared.func.Func.{Func}
use Rattle.keyed_state.specs.Counts.{Counts}
use Rattle.lane_core.specs.Steady.{IsSteady}
use Rattle.lane_core.specs.declared.form.Origin.{Origin}
use Rattle.lane_core.proofs.SteadyLemmas.{IsSteady-nil}
use Rattle.marker_align.specs.declared.decision.Due.{Due}
use Rattle.marker_align.specs.declared.held.Hand.TheVariants.{Empty}
use Rattle.sink_journal.specs.declared.journal.Entry.{Entry}
use Rattle.tuple_trace.specs.declared.tuple.Item.{Item}
use Rattle.flow_model.specs.Begin.{Begin, at_first, last_after, view_at}
use Rattle.flow_model.specs.Lanes.{is_sender, lanes, lanes_in, senders, out_numbers, lanes_that}
use Rattle.flow_model.specs.declared.topology.Lane.{Lane}
use Rattle.flow_model.specs.SetupView.{SetupView, Worker as WorkerOf}
use Rattle.flow_model.specs.Points.{turned}
use Rattle.flow_model.specs.Requests.{func_after}
use Rattle.flow_model.specs.Run.{IsLawfulFrom}
use Rattle.flow_model.specs.Duties.{dues_after}
use Rattle.flow_model.specs.Workers.{nth_worker, workers_in}
use Rattle.flow_model.proofs.ElementLemmas.{IsIn}
use Rattle.flow_model.proofs.LaneLemmas.{in_lanes_that, lane_is, sender_is}
use Rattle.flow_model.proofs.WorkerPlaces.{get-nth_worker, own_func}
use Rattle.flow_model.proofs.FewLanes.{few_lanes, some_lane}
use Rattle.flow_model.proofs.LaneLemmas.{sender_worker}
use Rattle.flow_model.specs.declared.in_force.InForce.{InForce}
use Rattle.flow_model.specs.declared.in_force.InForce.TheVariants.{Own}
use Rattle.flow_worker.specs.Pairs.{EachOne}
use Rattle.flow_model.specs.Dues.{AreDues, IsDueAfter, IsDueOf, edges_in}
use Rattle.flow_model.specs.InForce.{func_in}
use Rattle.flow_worker.specs.Endpoints.{LaneInIs, LaneOutIs, in_hand, planned}
use Rattle.flow_worker.specs.Parts.{AreNewEndpoints, IsStateAt, endpoint_in, endpoint_out}
use Rattle.lane_core.specs.Lane.{EndpointIs}
use Rattle.flow_model.specs.NewEndpoint.{IsNewEndpoint}
use Rattle.flow_worker.specs.Worker.{IsEndpointIn, IsEndpointOut, IsOnLane, IsPlaced, IsWorker, Sends, ShowsTaken, WorkerIs, view_now, lane_numbers_in, lane_numbers_out, progress_now, IsAtPlace}
use Rattle.flow_worker.proofs.PlaceLemmas.{placed_edges}
use Rattle.sink_journal.proofs.SmallLemmas.{get_mapped}
use Rattle.flow_worker.proofs.Pairs.{each_map, each_of}

-- ---- the law

-- nothing has happened since a beginning: the function, the counts and the latest request turned are those that it gives, and the due is the next after it
pub record IsNewFrom (setup : SetupView) (begin : Begin) (who : WorkerOf) (w : WorkerIs) : Type 0 where
  pub begun : Counts
  pub begun_is : slice_get begin.states w.number ≡ Some begun
  pub journal : w.journal ≡ []
  pub func : func_in setup w.node w.in_force ≡ Some (view_at setup begin.turned who begun).func
  pub counts : w.counts ≡ begun
  pub last : w.last ≡ (view_at setup begin.turned who begun).last
  pub due : IsDueAfter setup w.node (edges_in setup.job w.number) begin.turned w.due
  pub turned : w.owner.turned ≡ 0
  pub closed : w.closed ≡ false
  pub taken : EachOne (λ (a : LaneInIs). (a.taken ≡ []) × (a.hand ≡ Empty)) w.ins
  pub sent : EachOne (λ (out : LaneOutIs). (out.sent ≡ []) × (out.waiting ≡ [])) w.outs

-- the worker has its law then
pub begins_from : (setup : SetupView) (begin : Begin) (who : WorkerOf) (w : WorkerIs) → IsPlaced setup who w → IsNewFrom setup begin who w → IsWorker setup begin w
begins_from setup begin who w placed n =
    record {
      who = who;
      placed = placed;
      begun = n.begun;
      begun_is = n.begun_is;
      lawful = subst (λ (j : List Entry). IsLawfulFrom setup begin who j) (sym n.journal) (record { execution = tt; no_open_turn = refl });
      view = record {
        func_is = n.func ∙ ap (λ (j : List Entry). Some (view_now setup begin who n.begun j).func) (sym n.journal);
        counts_is = n.counts ∙ ap (λ (j : List Entry). (view_now setup begin who n.begun j).counts) (sym n.journal);
        last_is = n.last ∙ ap (λ (j : List Entry). (view_now setup begin who n.begun j).last) (sym n.journal);
      };
      taken = record {
        takes = subst (λ (j : List Entry). EachOne (ShowsTaken setup j) w.ins) (sym n.journal) (each_map (λ (a : LaneInIs). (a.taken ≡ []) × (a.hand ≡ Empty)) (ShowsTaken setup []) w.ins (λ a h. h.0 ∙ ap in_hand (sym h.1)) n.taken);
        steady = each_map (λ (a : LaneInIs). (a.taken ≡ []) × (a.hand ≡ Empty)) (λ (a : LaneInIs). IsSteady a.origin a.taken) w.ins (λ a h. subst (IsSteady a.origin) (sym h.0) (IsSteady-nil a.origin)) n.taken;
      };
      sent = record {
        sends = subst (λ (j : List Entry). EachOne (Sends setup begin who n.begun j) w.outs) (sym n.journal)
            (each_map (λ (out : LaneOutIs). (out.sent ≡ []) × (out.waiting ≡ [])) (Sends setup begin who n.begun []) w.outs (λ out h lane g. nothing out h.0 h.1) n.sent);
        steady = each_map (λ (out : LaneOutIs). (out.sent ≡ []) × (out.waiting ≡ [])) (λ (out : LaneOutIs). IsSteady out.origin (planned out)) w.outs (λ out h. subst (IsSteady out.origin) (sym (nothing out h.0 h.1)) (IsSteady-nil out.origin)) n.sent;
      };
      turned_is = n.turned ∙ ap (λ (j : List Entry). length (turned j)) (sym n.journal);
      due = record {
        dues_are = subst (λ (ds : List ℕ). AreDues setup w.node ds w.due) (ap (dues_after setup begin.turned) placed.stands.node_is ∙ ap (λ (j : List Entry). (progress_now setup begin who j).dues) (sym n.journal)) n.due.dues;
        due_is = subst (λ (es : List ℕ). IfSome w.due (IsDueOf setup w.node es)) (sym (placed_edges setup who w placed)) n.due.is_due;
        few_turned = subst (λ m. IfSome w.due (λ (due : Due). m < due.request)) (sym n.turned) (counted w.due begin.turned n.due.later);
      };
      closing = record {
        unended = λ c. ap (λ (j : List Entry). (progress_now setup begin who j).ended) n.journal;
        finished = λ c. absurd (let e : true ≡ false = sym c ∙ n.closed in cc);
        put_down = λ c. absurd (let e : true ≡ false = sym c ∙ n.closed in cc);
      };
    }
  where
    nothing : (out : LaneOutIs) → out.sent ≡ [] → out.waiting ≡ [] → planned out ≡ []
    nothing out s t = ap (λ (xs : List Item). xs ++ out.waiting) s ∙ t

    counted : (o : Option Due) (k : ℕ) → IfSome o (λ (due : Due). k < due.request) → IfSome o (λ (due : Due). 0 < due.request)
    counted None k h = tt
    counted (Some due) k h = let l : k < due.request = h in omega (arith, l)

-- the state of a worker where a beginning is
pub state_at : (setup : SetupView) (begin : Begin) (w node turned last : ℕ) (at : InForce) (counts : Counts) → w < length (workers_in setup.job) → slice_get begin.states w ≡ Some counts → turned ≡ begin.turned → node ≡ (nth_worker setup.job w).node
    → ((func : Func) → func_in setup node Own ≡ Some func → func_in setup node at ≡ Some (func_after setup node func turned)) → last ≡ last_after setup (nth_worker setup.job w).node turned
    → IsStateAt setup begin w (record {
      turned = turned;
      state = record { func = at; counts = counts; last = last; ended = 0 };
    })
state_at setup begin w node turned last at counts there c t n f l =
    let who = nth_worker setup.job w in
    let own = own_func setup w there in
    let put : func_in setup who.node at ≡ Some (func_after setup who.node who.func turned) =
    subst (λ (m : ℕ). func_in setup m Own ≡ Some who.func → func_in setup m at ≡ Some (func_after setup m who.func turned)) n (f who.func) own in
    record {
      begun_is = c;
      turned_is = t;
      func_is = subst (λ (r : ℕ). func_in setup who.node at ≡ Some (func_after setup who.node who.func r)) t put;
      last_is = l ∙ ap (last_after setup who.node) t;
    }

-- the state at the beginning of all
pub first_state : (setup : SetupView) (w : ℕ) (counts : Counts) → w < length (workers_in setup.job) → counts ≡ empty → IsStateAt setup (at_first setup) w (record {
  turned = 0;
  state = record { func = Own; counts = counts; last = 0; ended = 0 };
})
first_state setup w counts there none =
    let begun = get_mapped (λ (p : WorkerOf). empty) (workers_in setup.job) w (nth_worker setup.job w) (get-nth_worker setup.job w there) ∙ ap Some (sym none) in
    state_at setup (at_first setup) w (nth_worker setup.job w).node 0 0 Own counts there begun refl refl (λ func own. own) refl

-- ---- where it stands

ends_in : (setup : SetupView) (graph : Graph) (ins : List LaneInIs) → EachOne (λ (a : LaneInIs). IsOnLane setup.job a.number a.edge) ins → EachOne (IsNewEndpoint setup.job graph) (map endpoint_in ins) → EachOne (IsEndpointIn setup graph) ins
ends_in setup graph [] o e = tt
ends_in setup graph (a ∷ more) o e =
    let same : e.0.lane ≡ o.0.lane = same_Some e.0.lane o.0.lane (sym e.0.numbered ∙ o.0.numbered) in (
      record {
        lane = e.0.lane;
        edge = e.0.edge;
        numbered = e.0.numbered;
        edge_is = o.0.edge_is ∙ ap (λ (l : Lane). l.edge) (sym same);
        edge_there = e.0.edge_is;
        origin_is = e.0.origin_is;
      },
      ends_in setup graph more o.1 e.1,
    )

-- a lane out of a worker leads from its node
leads_from : (job : JobView) (w : ℕ) (who : WorkerOf) (n : ℕ) (lane : Lane) (edge : Edge) → slice_get (workers_in job) w ≡ Some who → IsIn n (out_numbers job w) → slice_get (lanes job) n ≡ Some lane → slice_get job.edges lane.edge ≡ Some edge
    → edge.from ≡ who.node
leads_from job w who n lane edge there i at g =
    let (other, here, sends) = in_lanes_that (λ (lane : Lane). is_sender w lane.sender) job n i in
    let same : other ≡ lane = same_Some other lane (sym here ∙ at) in
    let is = lane_is job n lane at in
    let its : is.edge ≡ edge = same_Some is.edge edge (sym is.edge_is ∙ g) in
    let sender : lane.sender ≡ Some w = ap (λ (l : Lane). l.sender) (sym same) ∙ sender_is w other.sender sends in
    let (by, works, number, node) = sender_worker job is.edge.from w (subst (λ (o : Option ℕ). IsIn o (senders job is.edge.from)) sender is.sends) in
    ap (λ (e : Edge). e.from) (sym its) ∙ (sym node ∙ ap (λ (x : WorkerOf). x.node) (same_Some by who (sym works ∙ there)))

ends_out : (setup : SetupView) (graph : Graph) (w node : ℕ) (who : WorkerOf) (outs : List LaneOutIs) → slice_get (workers_in setup.job) w ≡ Some who → node ≡ who.node → ((n : ℕ) → IsIn n (lane_numbers_out outs) → IsIn n (out_numbers setup.job w))
    → EachOne (λ (out : LaneOutIs). IsOnLane setup.job out.number out.edge) outs → EachOne (IsNewEndpoint setup.job graph) (map endpoint_out outs) → EachOne (IsEndpointOut setup graph node) outs
ends_out setup graph w node who [] there n f o e = tt
ends_out setup graph w node who (a ∷ more) there n f o e =
    let same : e.0.lane ≡ o.0.lane = same_Some e.0.lane o.0.lane (sym e.0.numbered ∙ o.0.numbered) in
    let from : e.0.edge.from ≡ node = leads_from setup.job w who a.number e.0.lane e.0.edge there (f a.number (inl refl)) e.0.numbered e.0.edge_is ∙ sym n in (
      record {
        lane = e.0.lane;
        numbered = e.0.numbered;
        edge_is = o.0.edge_is ∙ ap (λ (l : Lane). l.edge) (sym same);
        origin_is = e.0.origin_is ∙ ap {B = Origin} (λ k. record { graph = graph; from = k }) from;
      },
      ends_out setup graph w node who more there n (λ k i. f k (inr i)) o.1 e.1,
    )

-- what is put together stands where its ends belong
pub record IsMade (job : JobView) (who : WorkerOf) (w : WorkerIs) : Type 0 where
  pub stands : IsAtPlace job who w.number w.node w.place
  pub on_lanes : EachOne (λ (a : LaneInIs). IsOnLane job a.number a.edge) w.ins
  pub outs_on_lanes : EachOne (λ (out : LaneOutIs). IsOnLane job out.number out.edge) w.outs
  pub next : w.next ≡ 0
  pub room_in : length w.ins ≤ w.spare_in
  pub room_out : length w.outs ≤ w.spare_out

pub stands : (setup : SetupView) (who : WorkerOf) (w : WorkerIs) (ins outs : List EndpointIs) → IsLawful setup.job → IsMade setup.job who w → AreNewEndpoints setup.job w.number ins outs → map endpoint_in w.ins ≡ ins → map endpoint_out w.outs ≡ outs
    → IsPlaced setup who w
stands setup who w ins outs law m e i o =
    let numbers_i : lane_numbers_in w.ins ≡ lanes_in setup.job w.number = sym (map-map (λ (end : EndpointIs). end.number) endpoint_in w.ins) ∙ (ap (map (λ (end : EndpointIs). end.number)) i ∙ e.ins_are) in
    let numbers_o : lane_numbers_out w.outs ≡ out_numbers setup.job w.number = sym (map-map (λ (end : EndpointIs). end.number) endpoint_out w.outs) ∙ (ap (map (λ (end : EndpointIs). end.number)) o ∙ e.outs_are) in
    let long : length w.ins ≡ length (lanes_in setup.job w.number) = sym (length-map w.ins (λ (a : LaneInIs). a.number)) ∙ ap length numbers_i in
    record {
      stands = m.stands;
      graph = e.graph;
      graph_is = e.graph_is;
      ins = record {
        are = numbers_i;
        ends = ends_in setup e.graph w.ins m.on_lanes (subst (EachOne (IsNewEndpoint setup.job e.graph)) (sym i) e.new_in);
        some = let a = some_lane setup.job w.number who law m.stands.who_is in let b = m.next in omega (arith, long, a, b);
        few = let a = few_lanes setup.job w.number who law m.stands.who_is in omega (arith, long, a);
        room = m.room_in;
      };
      outs = record {
        are = numbers_o;
        ends = ends_out setup e.graph w.number w.node who w.outs m.stands.who_is m.stands.node_is (λ n i. subst (IsIn n) numbers_o i) m.outs_on_lanes (subst (EachOne (IsNewEndpoint setup.job e.graph)) (sym o) e.new_out);
        room = m.room_out;
      };
    }

-- ---- parts of what is put together

pub new_hands : (job : JobView) (graph : Graph) (ins : List LaneInIs) → EachOne (IsNewEndpoint job graph) (map endpoint_in ins) → EachOne (λ (a : LaneInIs). a.hand ≡ Empty) ins → EachOne (λ (a : LaneInIs). (a.taken ≡ []) × (a.hand ≡ Empty)) ins
new_hands job graph [] e h = tt
new_hands job graph (a ∷ more) e h = ((e.0.empty, h.0), new_hands job graph more e.1 h.1)

pub new_waiting : (job : JobView) (graph : Graph) (outs : List LaneOutIs) → EachOne (IsNewEndpoint job graph) (map endpoint_out outs) → EachOne (λ (out : LaneOutIs). out.waiting ≡ []) outs → EachOne (λ (out : LaneOutIs). (out.sent ≡ []) × (out.waiting ≡ [])) outs
new_waiting job graph [] e h = tt
new_waiting job graph (a ∷ more) e h = ((e.0.empty, h.0), new_waiting job graph more e.1 h.1)

-- the numbers of lanes that pass a test are those of lanes
pub lanes_there : (test : Lane → Bool) (job : JobView) → EachOne (λ (n : ℕ). n < length (lanes job)) (lanes_that test job)
lanes_there test job = each_of (λ (n : ℕ). n < length (lanes job)) (lanes_that test job) (λ n i.
    let (lane, at, passes) = in_lanes_that test job n i in
    slice_get_within (lanes job) n lane at)
