-- The law of a worker doesn't read the rows that the requests wait for.
use Rattle.std.proofs.Common.{◌≡◌, ◌∙◌, ◌+◌, ◌-◌, ◌==◌, ◌++◌, ◌∷◌, ◌&&◌, [], ℕ, zero, suc, List, Option, Some, None, cond, filter, length, map, refl, sym, subst, ap, slice_get}
use Rattle.std.specs.Prelude.{IfSome}
use Rattle.std.specs.List.{flat_map}
use Rattle.std.specs.Option.{option_map}
use Rattle.std.proofs.lemmas.Option.{same_Some, slice_get-map}
use Rattle.jobs.specs.declared.func.Func.{Func}
use Rattle.keyed_state.specs.Counts.{Counts}
use Rattle.marker_align.specs.declared.decision.Due.{Due}
use Rattle.sink_journal.specs.declared.journal.Entry.{Entry}
use Rattle.sink_journal.specs.declared.journal.Entry.TheVariants as entry
use Rattle.tuple_trace.specs.declared.tuple.Item.{Item}
use Rattle.versions.specs.declared.request.Change.{Change}
use Rattle.versions.specs.declared.request.Request.{Request}
use Rattle.flow_model.specs.Begin.{Begin, last_after, view_at}
use Rattle.flow_model.specs.Covers.{heads, holds_edge, holds_node, plan_of}
use Rattle.flow_model.specs.Dues.{AreDues, IsDueOf}
use Rattle.flow_model.specs.InForce.{change_at, func_in}
use Rattle.flow_model.specs.Lanes.{lanes, lanes_in, lanes_out, lanes_that}
use Rattle.flow_model.specs.Law.{IsFinished, IsLawfulJournal, initial, progress_after}
use Rattle.flow_model.specs.SetupView.{SetupView, Worker as WorkerOf}
use Rattle.flow_model.specs.Replay.{StateView, Put, after, after_all, came_in, items_on, marker, marker_by, put_on_each, puts, items_sent, shown, after_change}
use Rattle.flow_model.specs.Requests.{change_among, change_asked, change_by, func_after, func_with}
use Rattle.flow_model.specs.Duties.{dues_after, numbers_from, duties}
use Rattle.flow_model.specs.declared.in_force.InForce.{InForce}
use Rattle.flow_model.specs.declared.in_force.InForce.TheVariants.{Changed, Own}
use Rattle.flow_model.specs.declared.topology.Lane.{Lane}
use Rattle.flow_worker.specs.Endpoints.{LaneInIs, LaneOutIs, in_hand, planned}
use Rattle.flow_worker.specs.Pairs.{EachOne}
use Rattle.flow_worker.specs.Worker.{IsEndpointIn, IsEndpointOut, IsPlaced, IsWorker, WorkerIs, edges_of, view_now, progress_now}
use Rattle.flow_crew.specs.Crews.{IsCrew}

abbrev changes_of : List Request → List (List Change)
changes_of requests = map (λ (request : Request). request.changes) requests

same_request : (xs ys : List Request) (k : ℕ) → changes_of xs ≡ changes_of ys → option_map (λ (request : Request). request.changes) (slice_get xs k) ≡ option_map (λ (request : Request). request.changes) (slice_get ys k)
same_request xs ys k same =
    sym (slice_get-map (λ (request : Request). request.changes) xs k) ∙ (ap (λ (l : List (List Change)). slice_get l k) same ∙ slice_get-map (λ (request : Request). request.changes) ys k)

same_change_in : (q r : Option Request) (node : ℕ) → option_map (λ (request : Request). request.changes) q ≡ option_map (λ (request : Request). request.changes) r → change_asked q node ≡ change_asked r node
same_change_in None None node e = refl
same_change_in None (Some r) node e = absurd (cc)
same_change_in (Some q) None node e = absurd (cc)
same_change_in (Some q) (Some r) node e = ap (λ cs. change_among cs node) (same_Some q.changes r.changes e)

same_change_at : (q r : Option Request) (place : ℕ) → option_map (λ (request : Request). request.changes) q ≡ option_map (λ (request : Request). request.changes) r → change_at q place ≡ change_at r place
same_change_at None None place e = refl
same_change_at None (Some r) place e = absurd (cc)
same_change_at (Some q) None place e = absurd (cc)
same_change_at (Some q) (Some r) place e = ap (λ (cs : List Change). slice_get cs place) (same_Some q.changes r.changes e)

module _ (setup : SetupView) (requests : List Request) (same : changes_of requests ≡ changes_of setup.requests) where
  abbrev ran : SetupView
  ran = record setup { requests = requests }

  plan_same : (r : ℕ) → plan_of ran r ≡ plan_of setup r
  plan_same zero = refl
  plan_same (suc r) = refl

  change_same : (r node : ℕ) → change_by ran r node ≡ change_by setup r node
  change_same zero node = refl
  change_same (suc r) node = same_change_in (slice_get requests r) (slice_get setup.requests r) node (same_request requests setup.requests r same)

  marker_same : (r : ℕ) → marker ran r ≡ marker setup r
  marker_same r = ap (marker_by r) (plan_same r)

  after_same : (who : WorkerOf) (view : StateView) (e : Entry) → after ran who view e ≡ after setup who view e
  after_same who view (entry.Met lane tuple) = refl
  after_same who view (entry.Marked lane request) = refl
  after_same who view (entry.Turned request) = ap (λ c. record (after_change c view) { last = request }) (change_same request who.node)
  after_same who view (entry.Ended lane) = refl

  after_all_same : (who : WorkerOf) (view : StateView) (js : List Entry) → after_all ran who view js ≡ after_all setup who view js
  after_all_same who view [] = refl
  after_all_same who view (e ∷ js) = ap (λ l. after_all ran who l js) (after_same who view e) ∙ after_all_same who (after setup who view e) js

  puts_same : (who : WorkerOf) (view : StateView) (e : Entry) → puts ran who view e ≡ puts setup who view e
  puts_same who view (entry.Met lane tuple) = refl
  puts_same who view (entry.Marked lane request) = refl
  puts_same who view (entry.Turned request) = λ i.
      flat_map (λ mark. put_on_each mark (filter (λ (lane : Lane). holds_edge (plan_same request i) lane.edge) (lanes_out setup.job who.number))) (marker_by request (plan_same request i))
  puts_same who view (entry.Ended lane) = refl

  sent_same : (who : WorkerOf) (view : StateView) (lane : Lane) (js : List Entry) → items_sent ran who view lane js ≡ items_sent setup who view lane js
  sent_same who view lane [] = refl
  sent_same who view lane (e ∷ js) =
      ap (λ (p : List Put). items_on lane p ++ items_sent ran who (after ran who view e) lane js) (puts_same who view e)
      ∙ (ap (λ l. items_on lane (puts setup who view e) ++ items_sent ran who l lane js) (after_same who view e)
      ∙ ap (λ l. items_on lane (puts setup who view e) ++ l) (sent_same who (after setup who view e) lane js))

  came_same : (lane : ℕ) (e : Entry) → came_in ran lane e ≡ came_in setup lane e
  came_same lane (entry.Met from tuple) = refl
  came_same lane (entry.Marked from request) = ap (λ (m : List Item). cond (from == lane) m []) (marker_same request)
  came_same lane (entry.Turned request) = refl
  came_same lane (entry.Ended from) = refl

  shown_same : (lane : ℕ) (js : List Entry) → shown ran lane js ≡ shown setup lane js
  shown_same lane js = λ i. flat_map (λ e. came_same lane e i) js

  func_same : (node : ℕ) (func : Func) (r : ℕ) → func_after ran node func r ≡ func_after setup node func r
  func_same node func zero = refl
  func_same node func (suc r) = λ i. func_with (change_same (suc r) node i) (func_same node func r i)

  last_same : (node r : ℕ) → last_after ran node r ≡ last_after setup node r
  last_same node zero = refl
  last_same node (suc r) = λ i. cond (holds_node (plan_same (suc r) i) node) (suc r) (last_same node r i)

  local_same : (turned : ℕ) (who : WorkerOf) (counts : Counts) → view_at ran turned who counts ≡ view_at setup turned who counts
  local_same turned who counts = λ i. record { func = func_same who.node who.func turned i; counts = counts; last = last_same who.node turned i; ended = 0 }

  dues_same : (turned node : ℕ) → dues_after ran turned node ≡ dues_after setup turned node
  dues_same turned node = λ i. filter (λ r. holds_node (plan_same r i) node) (numbers_from (turned + 1) (length setup.plans - turned))

  station_same : (turned : ℕ) (who : WorkerOf) → duties ran turned who ≡ duties setup turned who
  station_same turned who = λ i. record {
    lanes = lanes_in setup.job who.number;
    dues = dues_same turned who.node i;
    is_head = λ request. heads (plan_same request i) who.node;
    marked_lanes = λ request. lanes_that (λ (lane : Lane). (lane.receiver == who.number) && holds_edge (plan_same request i) lane.edge) setup.job;
  }

  func_in_same : (node : ℕ) (in_force : InForce) → func_in ran node in_force ≡ func_in setup node in_force
  func_in_same node Own = refl
  func_in_same node (Changed zero place) = refl
  func_in_same node (Changed (suc r) place) =
      ap (option_map (λ (change : Change). change.func)) (same_change_at (slice_get requests r) (slice_get setup.requests r) place (same_request requests setup.requests r same))

  now_same : (begin : Begin) (who : WorkerOf) (counts : Counts) (js : List Entry) → view_now ran begin who counts js ≡ view_now setup begin who counts js
  now_same begin who counts js = ap (λ l. after_all ran who l js) (local_same begin.turned who counts) ∙ after_all_same who (view_at setup begin.turned who counts) js

  sends_same : (begin : Begin) (who : WorkerOf) (counts : Counts) (js : List Entry) (lane : Lane) → items_sent ran who (view_at ran begin.turned who counts) lane js ≡ items_sent setup who (view_at setup begin.turned who counts) lane js
  sends_same begin who counts js lane = ap (λ l. items_sent ran who l lane js) (local_same begin.turned who counts) ∙ sent_same who (view_at setup begin.turned who counts) lane js

  progress_same : (begin : Begin) (who : WorkerOf) (js : List Entry) → progress_now ran begin who js ≡ progress_now setup begin who js
  progress_same begin who js = ap (λ s. progress_after (initial s) js) (station_same begin.turned who)

  dues_kept : (node : ℕ) (dues : List ℕ) (due : Option Due) → AreDues setup node dues due → AreDues ran node dues due
  dues_kept node dues None h = h
  dues_kept node dues (Some due) h = h ∙ ap (λ l. due.request ∷ l) (sym (dues_same due.request node))

  due_kept : (node : ℕ) (edges : List ℕ) (due : Option Due) → IfSome due (IsDueOf setup node edges) → IfSome due (IsDueOf ran node edges)
  due_kept node edges None h = tt
  due_kept node edges (Some due) h = record {
    head = h.head ∙ ap (λ p. heads p node) (sym (plan_same due.request));
    marker_is = marker_same due.request ∙ h.marker_is;
    lanes = λ place edge g. h.lanes place edge g ∙ ap (λ p. holds_edge p edge) (sym (plan_same due.request));
  }

  placed_kept : (who : WorkerOf) (w : WorkerIs) → IsPlaced setup who w → IsPlaced ran who w
  placed_kept who w h = record {
    stands = h.stands;
    graph = h.graph;
    graph_is = h.graph_is;
    ins = record {
      are = h.ins.are;
      ends = each_as w.ins h.ins.ends;
      some = h.ins.some;
      few = h.ins.few;
      room = h.ins.room;
    };
    outs = record { are = h.outs.are; ends = each_as_out w.outs h.outs.ends; room = h.outs.room };
  }
    where
      each_as : (ins : List LaneInIs) → EachOne (IsEndpointIn setup h.graph) ins → EachOne (IsEndpointIn ran h.graph) ins
      each_as [] e = tt
      each_as (a ∷ ins) e = (record { lane = e.0.lane; edge = e.0.edge; numbered = e.0.numbered; edge_is = e.0.edge_is; edge_there = e.0.edge_there; origin_is = e.0.origin_is }, each_as ins e.1)

      each_as_out : (outs : List LaneOutIs) → EachOne (IsEndpointOut setup h.graph w.node) outs → EachOne (IsEndpointOut ran h.graph w.node) outs
      each_as_out [] e = tt
      each_as_out (a ∷ outs) e = (record { lane = e.0.lane; numbered = e.0.numbered; edge_is = e.0.edge_is; origin_is = e.0.origin_is }, each_as_out outs e.1)

  pub worker_kept : (begin : Begin) (w : WorkerIs) → IsWorker setup begin w → IsWorker ran begin w
  worker_kept begin w h = record {
    who = h.who;
    placed = placed_kept h.who w h.placed;
    begun = h.begun;
    begun_is = h.begun_is;
    lawful = subst (λ s. IsLawfulJournal s w.journal) (sym (station_same begin.turned h.who)) h.lawful;
    view = record {
      func_is = func_in_same w.node w.in_force ∙ (h.view.func_is ∙ ap (λ (l : StateView). Some l.func) (sym (now_same begin h.who h.begun w.journal)));
      counts_is = h.view.counts_is ∙ ap (λ (l : StateView). l.counts) (sym (now_same begin h.who h.begun w.journal));
      last_is = h.view.last_is ∙ ap (λ (l : StateView). l.last) (sym (now_same begin h.who h.begun w.journal));
    };
    taken = record {
      takes = subst (λ (F : ℕ → List Item). EachOne (λ (a : LaneInIs). a.taken ≡ F a.number ++ in_hand a.hand) w.ins) (λ i n. sym (shown_same n w.journal) i) h.taken.takes;
      steady = h.taken.steady;
    };
    sent = record {
      sends = subst (λ (F : Lane → List Item). EachOne (λ (out : LaneOutIs). (lane : Lane) → slice_get (lanes setup.job) out.number ≡ Some lane → planned out ≡ F lane) w.outs)
          (λ i lane. sym (sends_same begin h.who h.begun w.journal lane) i) h.sent.sends;
      steady = h.sent.steady;
    };
    turned_is = h.turned_is;
    due = record {
      dues_are = dues_kept w.node (progress_now ran begin h.who w.journal).dues w.due (subst (λ p. AreDues setup w.node p.dues w.due) (sym (progress_same begin h.who w.journal)) h.due.dues_are);
      due_is = due_kept w.node (edges_of w.ins) w.due h.due.due_is;
      few_turned = h.due.few_turned;
    };
    closing = record {
      unended = λ c. ap (λ p. p.ended) (progress_same begin h.who w.journal) ∙ h.closing.unended c;
      finished = λ c. subst (λ s. IsFinished s w.journal) (sym (station_same begin.turned h.who)) (h.closing.finished c);
      put_down = h.closing.put_down;
    };
  }

  pub crew_kept : (begin : Begin) (workers : List WorkerIs) → IsCrew setup begin workers → IsCrew ran begin workers
  crew_kept begin workers h = record { many = h.many; number = h.number; law = λ w worker g. worker_kept begin worker (h.law w worker g) }
