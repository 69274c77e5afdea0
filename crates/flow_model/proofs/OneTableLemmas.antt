-- What came to the sinks of a run is what its rows make by themselves, each with a table of the functions that were in force where it was met.
use Rattle.std.proofs.Common.{◌≡◌, ◌∙◌, ◌<◌, ◌≤◌, ◌+◌, ◌-◌, ◌++◌, ◌==◌, ℕ, zero, suc, List, [], ◌∷◌, refl, sym, subst, ap, arith, true, false, Bool, cond, length, map, flat_map, count_by, nat_le, Some, None, Option, slice_get, append_assoc}
use Rattle.std.specs.FinMap.{empty}
use Rattle.std.specs.List.{cons_option, enumerate_from}
use Rattle.std.proofs.lemmas.Option.{same_Some, slice_get_within}
use Rattle.jobs.specs.Nodes.{AreFromSources, is_sink}
use Rattle.jobs.specs.JobView.{JobView}
use Rattle.jobs.specs.declared.func.Func.{Func}
use Rattle.jobs.specs.declared.func.NodeDef.{NodeDef}
use Rattle.operators.specs.Laws.{IsMadeOf, bare, bare_tuple}
use Rattle.operators.specs.Meaning.{step}
use Rattle.operators.specs.declared.output.Output.{Output}
use Rattle.operators.proofs.CountLemmas.{sinks_end}
use Rattle.operators.proofs.OutputLemmas.{outputs_made}
use Rattle.sink_journal.specs.Alerts.{met}
use Rattle.sink_journal.specs.declared.journal.Entry.{Entry}
use Rattle.sink_journal.specs.declared.journal.Entry.TheVariants as entry
use Rattle.sink_journal.specs.declared.journal.Feed.{Feed}
use Rattle.tuple_trace.specs.declared.row.Row.{Row}
use Rattle.tuple_trace.specs.declared.tuple.Item.{Item}
use Rattle.tuple_trace.specs.declared.tuple.Item.TheVariants as item
use Rattle.tuple_trace.specs.declared.tuple.Tuple.{Tuple}
use Rattle.versions.specs.declared.request.Change.{Change}
use Rattle.flow_model.specs.declared.landing.Landing.{Landing}
use Rattle.flow_model.specs.Alone.{alone, bare_visit, func_for, func_for_node, landing, lands, onward, table}
use Rattle.flow_model.specs.Feeding.{fed_put, fed_puts, fed_tuple, feed_after, issued_after, issued_at_first, row_numbered}
use Rattle.flow_model.specs.Lanes.{first_on, lane_of}
use Rattle.flow_model.specs.OneTable.{HasNoCounts, IsOneTable, landings, landings_by}
use Rattle.flow_model.specs.declared.topology.Lane.{Lane}
use Rattle.flow_model.specs.SetupView.{SetupView, Worker}
use Rattle.flow_model.specs.Replay.{StateView, Put, after, put_out, puts, visit_at}
use Rattle.flow_model.specs.Requests.{afters, change_by, func_with}
use Rattle.flow_model.specs.Run.{Ran}
use Rattle.flow_model.specs.Whole.{is_new, journals_at, met_tuples}
use Rattle.flow_model.specs.Workers.{workers_in}
use Rattle.flow_model.proofs.ElementLemmas.{IsIn, place_of_in}
use Rattle.flow_model.proofs.WorkerLemmas.{IsWorker, begun, in_workers, journal_of, who_is, worker_no, worker_is}
use Rattle.flow_model.proofs.StoryLemmas.{Moment, story, story_get}
use Rattle.flow_model.proofs.SendingLemmas.{made, puts_come}
use Rattle.flow_model.proofs.KindLemmas.{AreAlike, alike_self, changed_alike}
use Rattle.flow_model.proofs.RunLemmas.{HasWorker, Running, journal_here}
use Rattle.flow_model.proofs.LineageLemmas.{puts_of, story_of}
use Rattle.flow_model.proofs.FreshLemmas.{past_issued}
use Rattle.flow_model.proofs.SumLemmas.{count_append, count_flat_map, count_one, count_sum, if_none, of_some, sum_add, sum_append, sum_filter_map, sum_flat_map, sum_map, sum_none, sum_over, sum_same}
use Rattle.flow_model.proofs.FitLemmas.{GoesOn}
use Rattle.flow_model.proofs.FlowLemmas.{all_puts, entry_weight, flow, lane_to, node_to, put_weight, weigh}
use Rattle.flow_model.proofs.PutFitLemmas.{AtWork, at_work, feeder_fits, out_goes, row_goes, worker_fits}
use Rattle.flow_model.proofs.LandingLemmas.{AreTables, HasFunc, behind, has_func, lands-outputs, lands-sink, lands_same, outputs_alike, sum_alike}
use Rattle.flow_model.proofs.TableLemmas.{by_table}

-- what goes on a lane weighs what its item weighs at the node to which the lane leads
weight_on : (V : ℕ → Tuple → ℕ) (job : JobView) (sender : Option ℕ) (node port : ℕ) (t u : Tuple) → (k : GoesOn job sender node port t)
    → put_weight V job (record { lane = lane_of job sender node port t; item = item.Carry u }) ≡ V k.edge.to u
weight_on V job sender node port t u k =
    let to : lane_to job k.lane ≡ k.edge.to = ap node_to (ap (slice_get job.edges) k.edge_number ∙ k.edge_is) in
    ap (of_some (λ (lane : Lane). V (lane_to job lane) u)) k.lane_is ∙ ap (λ v. V v u) to

module _ (rows : List Row) (ran : Ran) (g : Running rows ran) (none : HasNoCounts ran.setup.job) (sources : AreFromSources ran.setup.job rows) (T : ℕ → ℕ → Option Func) (tables : AreTables ran T) (test : Landing → Bool) where
  -- how many nodes a way from this one on has at most
  abbrev left_at : ℕ → ℕ
  left_at node = length ran.setup.job.nodes - g.connected.rank node

  -- how many landings of a tuple at a node pass the test
  abbrev V : ℕ → Tuple → ℕ
  V node t = count_by test (lands ran.setup.job (T t.row) (left_at node) node t)

  -- as many as an alike tuple makes, over no fewer nodes
  V_is : (row n node : ℕ) (t u : Tuple) → t.row ≡ row → bare_tuple t ≡ bare_tuple u → node < length ran.setup.job.nodes → length ran.setup.job.nodes ≤ n + g.connected.rank node
      → V node t ≡ count_by test (lands ran.setup.job (T row) n node u)
  V_is row n node t u e a lt le =
      ap (λ r. count_by test (lands ran.setup.job (T r) (left_at node) node t)) e
      ∙ ap (count_by test) (lands_same rows ran g none T tables row (left_at node) n node t u a lt (omega arith) le)

  -- ---- a worker that is no sink makes what it met, and a sink makes nothing

  abbrev kept_at : ℕ → Entry → ℕ
  kept_at w e = cond (is_sink (worker_no ran.setup w).func) 0 (entry_weight V (worker_no ran.setup w).node e)

  -- a put that carries no tuple weighs nothing
  no_tuple : (ps : List Put) → ((p : Put) → IsIn p ps → (node : ℕ) → weigh V node p.item ≡ 0) → sum_over (put_weight V ran.setup.job) ps ≡ 0
  no_tuple ps h = sum_none (put_weight V ran.setup.job) ps (λ p i. go p i p.lane)
    where
      go : (p : Put) → IsIn p ps → (l : Option Lane) → of_some (λ (lane : Lane). weigh V (lane_to ran.setup.job lane) p.item) l ≡ 0
      go p i None = refl
      go p i (Some lane) = h p i (lane_to ran.setup.job lane)

  -- an output weighs what becomes of it
  out_weighs : (w l : ℕ) (m : Moment) (u : Tuple) (n : ℕ) (o p : Output) → AtWork ran w m → length ran.setup.job.nodes ≤ suc n + g.connected.rank (worker_no ran.setup w).node
      → IsIn o (made ran.setup (worker_no ran.setup w) m.view u) → bare o ≡ bare p
      → put_weight V ran.setup.job (put_out ran.setup.job (worker_no ran.setup w) o) ≡ count_by test (behind ran.setup.job (T u.row) n (worker_no ran.setup w).node p)
  out_weighs w l m u n o p a le i b =
      let on : GoesOn ran.setup.job (Some (worker_no ran.setup w).number) (worker_no ran.setup w).node o.port o.tuple = out_goes rows ran g w m u o a i in
      let k = place_of_in o (made ran.setup (worker_no ran.setup w) m.view u) i in
      let of : IsMadeOf ran.setup.job.edges (visit_at (worker_no ran.setup w) m.view) m.view.func u k.0 o =
      outputs_made ran.setup.job (visit_at (worker_no ran.setup w) m.view) m.view.func m.view.counts u k.0 o k.1 in
      let up : g.connected.rank on.edge.from < g.connected.rank on.edge.to = g.connected.forward on.number on.edge on.edge_is in
      let from : g.connected.rank on.edge.from ≡ g.connected.rank (worker_no ran.setup w).node = ap g.connected.rank on.from in
      let port : o.port ≡ p.port = ap (λ (x : Output). x.port) b in
      let found : first_on (worker_no ran.setup w).node p.port (enumerate_from 0 ran.setup.job.edges) ≡ Some (on.number, on.edge) =
      ap (λ x. first_on (worker_no ran.setup w).node x (enumerate_from 0 ran.setup.job.edges)) (sym port) ∙ on.found in
      weight_on V ran.setup.job (Some (worker_no ran.setup w).number) (worker_no ran.setup w).node o.port o.tuple o.tuple on
      ∙ (V_is u.row n on.edge.to o.tuple p.tuple of.row (ap (λ (x : Output). x.tuple) b) (g.connected.ends on.number on.edge on.edge_is).1 (omega arith)
      ∙ ap (λ f. count_by test (onward (lands ran.setup.job (T u.row) n) f p.tuple)) (sym found))

  met_keeps : (w l : ℕ) (m : Moment) (u : Tuple) → AtWork ran w m → m.entry ≡ entry.Met l u
      → sum_over (put_weight V ran.setup.job) (puts ran.setup (worker_no ran.setup w) m.view (entry.Met l u)) ≡ kept_at w (entry.Met l u)
  met_keeps w l m u a e =
      sum_map (put_out ran.setup.job (worker_no ran.setup w)) (put_weight V ran.setup.job) (made ran.setup (worker_no ran.setup w) m.view u)
      ∙ by_kind (is_sink (worker_no ran.setup w).func) refl (left_at (worker_no ran.setup w).node) refl
    where
      who : Worker
      who = worker_no ran.setup w

      inside : (worker_no ran.setup w).node < length ran.setup.job.nodes
      inside = slice_get_within ran.setup.job.nodes (worker_no ran.setup w).node a.is.def a.is.node_is

      has : HasFunc ran T u.row (worker_no ran.setup w).node
      has = has_func rows ran g none T tables u.row (worker_no ran.setup w).node inside

      table_func : m.view.func ≡ has.func
      table_func =
          let x = tables.in_force w a.i l u m a.within a.there (story_get ran.setup (worker_no ran.setup w) (begun ran.setup w) (journal_of ran w) a.i m a.there ∙ ap Some e) in
          let y = has.func_is in
          same_Some m.view.func has.func (sym x ∙ y)

      by_kind : (b : Bool) → is_sink (worker_no ran.setup w).func ≡ b → (n : ℕ) → left_at (worker_no ran.setup w).node ≡ n
          → sum_over (λ (o : Output). put_weight V ran.setup.job (put_out ran.setup.job (worker_no ran.setup w) o)) (made ran.setup (worker_no ran.setup w) m.view u)
          ≡ cond b 0 (V (worker_no ran.setup w).node u)
      by_kind true s n d =
          ap (sum_over (λ (o : Output). put_weight V ran.setup.job (put_out ran.setup.job (worker_no ran.setup w) o))) (sinks_end ran.setup.job (visit_at (worker_no ran.setup w) m.view) m.view.func m.view.counts u (a.alike.sink ∙ s))
      by_kind false s zero d = let low = g.connected.below (worker_no ran.setup w).node inside in absurd (omega arith)
      by_kind false s (suc n) d =
          let f : Func = has.func in
          let no_sink : is_sink f ≡ false = ap is_sink (sym table_func) ∙ (a.alike.sink ∙ s) in
          let these : map bare (made ran.setup (worker_no ran.setup w) m.view u) ≡ map bare (step ran.setup.job (bare_visit (worker_no ran.setup w).node) f empty u).1 =
          subst (λ (h : Func). map bare (step ran.setup.job (visit_at (worker_no ran.setup w) m.view) h m.view.counts u).1 ≡ map bare (step ran.setup.job (bare_visit (worker_no ran.setup w).node) f empty u).1) (sym table_func)
          (outputs_alike ran.setup.job (visit_at (worker_no ran.setup w) m.view) (worker_no ran.setup w).node f m.view.counts u u refl has.no_count refl) in
          let below = g.connected.below (worker_no ran.setup w).node inside in
          let enough : length ran.setup.job.nodes ≤ suc n + g.connected.rank (worker_no ran.setup w).node = omega arith in
          sum_alike (λ (o : Output). put_weight V ran.setup.job (put_out ran.setup.job (worker_no ran.setup w) o))
          (λ (p : Output). count_by test (behind ran.setup.job (T u.row) n (worker_no ran.setup w).node p))
          (made ran.setup (worker_no ran.setup w) m.view u) (step ran.setup.job (bare_visit (worker_no ran.setup w).node) f empty u).1 these
          (λ o p i b. out_weighs w l m u n o p a enough i b)
          ∙ (sym (count_flat_map test (behind ran.setup.job (T u.row) n (worker_no ran.setup w).node) (step ran.setup.job (bare_visit (worker_no ran.setup w).node) f empty u).1)
          ∙ (ap (count_by test) (sym (lands-outputs ran.setup.job (T u.row) n (worker_no ran.setup w).node u f has.func_is no_sink))
          ∙ ap (λ k. count_by test (lands ran.setup.job (T u.row) k (worker_no ran.setup w).node u)) (sym d)))

  no_mark : (r cover node : ℕ) (x : Item) → x ≡ item.Mark r cover → weigh V node x ≡ 0
  no_mark r cover node x e = ap (weigh V node) e

  no_last : (node : ℕ) (x : Item) → x ≡ item.Last → weigh V node x ≡ 0
  no_last node x e = ap (weigh V node) e

  keeps : (w : ℕ) (m : Moment) → AtWork ran w m → sum_over (put_weight V ran.setup.job) (puts_of ran w m) ≡ kept_at w m.entry
  keeps w m a = go m.entry refl
    where
      go : (e : Entry) → m.entry ≡ e → sum_over (put_weight V ran.setup.job) (puts ran.setup (worker_no ran.setup w) m.view e) ≡ kept_at w e
      go (entry.Met l u) e = met_keeps w l m u a e
      go (entry.Marked l r) e = sym (if_none (is_sink (worker_no ran.setup w).func))
      go (entry.Turned r) e =
          no_tuple (puts ran.setup (worker_no ran.setup w) m.view (entry.Turned r))
          (λ p i node. let c = puts_come ran.setup (worker_no ran.setup w) m.view (entry.Turned r) p i in no_mark r c.0.nodes node p.item c.2)
          ∙ sym (if_none (is_sink (worker_no ran.setup w).func))
      go (entry.Ended l) e =
          no_tuple (puts ran.setup (worker_no ran.setup w) m.view (entry.Ended l)) (λ p i node. no_last node p.item (puts_come ran.setup (worker_no ran.setup w) m.view (entry.Ended l) p i))
          ∙ sym (if_none (is_sink (worker_no ran.setup w).func))

  sum_entries : (setup : SetupView) (who : Worker) (view : StateView) (journal : List Entry) (F : Entry → ℕ) → sum_over (λ (m : Moment). F m.entry) (story setup who view journal) ≡ sum_over F journal
  sum_entries setup who view [] F = refl
  sum_entries setup who view (x ∷ journal) F = omega (arith, sum_entries setup who (after setup who view x) journal F)

  if_sum_zero : (b : Bool) (F : Entry → ℕ) (journal : List Entry) → sum_over (λ (x : Entry). cond b 0 (F x)) journal ≡ cond b 0 (sum_over F journal)
  if_sum_zero true F journal = sum_none (λ (x : Entry). 0) journal (λ x i. refl)
  if_sum_zero false F journal = refl

  worker_keeps : (who : Worker) → IsIn who (workers_in ran.setup.job)
      → sum_over (put_weight V ran.setup.job) (all_puts ran who.number) ≡ cond (is_sink who.func) 0 (sum_over (entry_weight V who.node) (journal_of ran who.number))
  worker_keeps who i =
      let is : IsWorker ran.setup.job who = in_workers ran.setup.job who i in
      let lt : HasWorker ran who.number = slice_get_within (workers_in ran.setup.job) who.number who is.there in
      let same : worker_no ran.setup who.number ≡ who = who_is ran.setup who.number who is.there in
      sum_flat_map (puts_of ran who.number) (put_weight V ran.setup.job) (story_of ran who.number)
      ∙ (sum_same (λ (m : Moment). sum_over (put_weight V ran.setup.job) (puts_of ran who.number m)) (λ (m : Moment). kept_at who.number m.entry) (story_of ran who.number)
      (λ m h. keeps who.number m (at_work rows ran g who.number m lt h))
      ∙ (sum_entries ran.setup (worker_no ran.setup who.number) (begun ran.setup who.number) (journal_of ran who.number) (kept_at who.number)
      ∙ (if_sum_zero (is_sink (worker_no ran.setup who.number).func) (entry_weight V (worker_no ran.setup who.number).node) (journal_of ran who.number)
      ∙ ap (λ (p : Worker). cond (is_sink p.func) 0 (sum_over (entry_weight V p.node) (journal_of ran who.number))) same)))

  -- ---- what is fed weighs what the rows make by themselves

  abbrev row_weight : Row → ℕ
  row_weight row = count_by test (alone ran.setup.job (T row.tuple.row) row)

  fed_weighs : (number issued : ℕ) (row : Row) → row_numbered rows number ≡ Some row → sum_over (put_weight V ran.setup.job) (fed_put ran.setup.job issued (Some row)) ≡ row_weight row
  fed_weighs number issued row e =
      let on : GoesOn ran.setup.job None row.source 0 row.tuple = row_goes rows ran g sources number row e in
      let a : put_weight V ran.setup.job (record { lane = lane_of ran.setup.job None row.source 0 row.tuple; item = item.Carry (fed_tuple issued row) }) ≡ row_weight row =
      weight_on V ran.setup.job None row.source 0 row.tuple (fed_tuple issued row) on
      ∙ (V_is row.tuple.row (length ran.setup.job.nodes) on.edge.to (fed_tuple issued row) row.tuple refl refl (g.connected.ends on.number on.edge on.edge_is).1 (omega arith)
      ∙ ap (λ f. count_by test (onward (lands ran.setup.job (T row.tuple.row) (length ran.setup.job.nodes)) f row.tuple)) (sym on.found)) in
      omega arith

  get_behind : (front more : List Row) (row : Row) → slice_get (front ++ row ∷ more) (length front) ≡ Some row
  get_behind [] more row = refl
  get_behind (x ∷ front) more row = get_behind front more row

  length_push : (xs : List Row) (x : Row) → length (xs ++ x ∷ []) ≡ length xs + 1
  length_push [] x = omega arith
  length_push (y ∷ xs) x = omega (arith, length_push xs x)

  row_behind : (front more : List Row) (row : Row) → rows ≡ front ++ row ∷ more → row_numbered rows (length front + 1) ≡ Some row
  row_behind front more row e =
      let n : length front + 1 ≡ suc (length front) = omega arith in
      rw n (ap (λ (l : List Row). slice_get l (length front)) e ∙ get_behind front more row)

  after_weighs : (waits : List ℕ) (r issued : ℕ) (front more : List Row) → rows ≡ front ++ more
      → sum_over (put_weight V ran.setup.job) (fed_puts ran.setup.job rows issued (feed_after waits r (length front) (length rows) (length more))) ≡ sum_over row_weight more
  after_weighs waits r issued front [] e = refl
  after_weighs waits r issued front (row ∷ more) e =
      sum_append (put_weight V ran.setup.job) (fed_put ran.setup.job issued (row_numbered rows (length front + 1)))
      (fed_puts ran.setup.job rows issued (issued_after (length front + 1) (length rows) r waits ++ feed_after waits r (length front + 1) (length rows) (length more)))
      ∙ omega (arith, here, later (λ n. after_weighs waits r n (front ++ row ∷ []) more (e ∙ sym (append_assoc front (row ∷ []) more))))
    where
      there : row_numbered rows (length front + 1) ≡ Some row
      there = row_behind front more row e

      here : sum_over (put_weight V ran.setup.job) (fed_put ran.setup.job issued (row_numbered rows (length front + 1))) ≡ row_weight row
      here = ap (λ o. sum_over (put_weight V ran.setup.job) (fed_put ran.setup.job issued o)) there ∙ fed_weighs (length front + 1) issued row there

      later : ((n : ℕ) → sum_over (put_weight V ran.setup.job) (fed_puts ran.setup.job rows n (feed_after waits r (length (front ++ row ∷ [])) (length rows) (length more))) ≡ sum_over row_weight more)
          → sum_over (put_weight V ran.setup.job) (fed_puts ran.setup.job rows issued (issued_after (length front + 1) (length rows) r waits ++ feed_after waits r (length front + 1) (length rows) (length more)))
          ≡ sum_over row_weight more
      later rest =
          let count : ℕ = issued + length (issued_after (length front + 1) (length rows) r waits) in
          ap (sum_over (put_weight V ran.setup.job))
          (past_issued ran.setup.job rows (λ after. after == length front + 1) (length rows) r issued waits (feed_after waits r (length front + 1) (length rows) (length more)))
          ∙ subst (λ n. sum_over (put_weight V ran.setup.job) (fed_puts ran.setup.job rows count (feed_after waits r n (length rows) (length more))) ≡ sum_over row_weight more) (length_push front row)
          (rest count)

  feed_weighs : sum_over (put_weight V ran.setup.job) (fed_puts ran.setup.job rows 0 ran.feeds) ≡ sum_over row_weight rows
  feed_weighs =
      let waits : List ℕ = afters ran.setup.requests in
      let all : length rows - 0 ≡ length rows = omega arith in
      ap (λ (f : List Feed). sum_over (put_weight V ran.setup.job) (fed_puts ran.setup.job rows 0 f)) g.run.feed
      ∙ (ap (sum_over (put_weight V ran.setup.job)) (past_issued ran.setup.job rows (λ after. nat_le after 0) (length rows) 1 0 waits (feed_after waits 1 0 (length rows) (length rows - 0)))
      ∙ (ap (λ n. sum_over (put_weight V ran.setup.job) (fed_puts ran.setup.job rows (0 + length (issued_at_first 0 (length rows) 1 waits)) (feed_after waits 1 0 (length rows) n))) all
      ∙ after_weighs waits 1 (0 + length (issued_at_first 0 (length rows) 1 waits)) [] rows refl))

  -- ---- what came to the sinks

  sink_weighs : (row_sink : Worker) → IsWorker ran.setup.job row_sink → (t : Tuple) → is_sink row_sink.func ≡ true → V row_sink.node t ≡ cond (test (landing row_sink.node t)) 1 0
  sink_weighs who is t s = go (has_func rows ran g none T tables t.row who.node inside) (left_at who.node) refl
    where
      inside : who.node < length ran.setup.job.nodes
      inside = slice_get_within ran.setup.job.nodes who.node is.def is.node_is

      go : HasFunc ran T t.row who.node → (n : ℕ) → left_at who.node ≡ n → count_by test (lands ran.setup.job (T t.row) (left_at who.node) who.node t) ≡ cond (test (landing who.node t)) 1 0
      go h zero e = let low = g.connected.below who.node inside in absurd (omega arith)
      go h (suc n) e =
          let x = h.node_is in
          let y = is.node_is in
          let same : is.def ≡ h.def = cc in
          let sink : is_sink h.func ≡ true =
          h.alike.sink ∙ (ap (λ (d : NodeDef). is_sink d.func) (sym same) ∙ (ap is_sink (sym is.func_is) ∙ s)) in
          ap (λ k. count_by test (lands ran.setup.job (T t.row) k who.node t)) e
          ∙ (ap (count_by test) (lands-sink ran.setup.job (T t.row) n who.node t h.func h.func_is sink)
          ∙ count_one test (landing who.node t))

  sink_counts : (who : Worker) → IsWorker ran.setup.job who → (journal : List Entry) → is_sink who.func ≡ true
      → count_by test (map (landing who.node) (met_tuples journal)) ≡ sum_over (entry_weight V who.node) journal
  sink_counts who is journal s =
      count_sum test (map (landing who.node) (met_tuples journal))
      ∙ (sum_map (landing who.node) (λ (x : Landing). cond (test x) 1 0) (met_tuples journal)
      ∙ (sum_filter_map met (λ (t : Tuple). cond (test (landing who.node t)) 1 0) journal
      ∙ sum_same (λ (x : Entry). of_some (λ (t : Tuple). cond (test (landing who.node t)) 1 0) (met x)) (entry_weight V who.node) journal (λ x i. one x)))
    where
      one : (x : Entry) → of_some (λ (t : Tuple). cond (test (landing who.node t)) 1 0) (met x) ≡ entry_weight V who.node x
      one (entry.Met l t) = sym (sink_weighs who is t s)
      one (entry.Marked l r) = refl
      one (entry.Turned r) = refl
      one (entry.Ended l) = refl

  worker_lands : (who : Worker) → IsIn who (workers_in ran.setup.job)
      → count_by test (flat_map (landings_by who) (journals_at ran.journals (who ∷ []))) ≡ cond (is_sink who.func) (sum_over (entry_weight V who.node) (journal_of ran who.number)) 0
  worker_lands who i =
      let is : IsWorker ran.setup.job who = in_workers ran.setup.job who i in
      let lt : HasWorker ran who.number = slice_get_within (workers_in ran.setup.job) who.number who is.there in
      ap (λ o. count_by test (flat_map (landings_by who) (cons_option o []))) (journal_here rows ran g who.number lt)
      ∙ (count_append test (landings_by who (journal_of ran who.number)) [] ∙ by_kind is (is_sink who.func) refl)
    where
      by_kind : IsWorker ran.setup.job who → (b : Bool) → is_sink who.func ≡ b
          → count_by test (cond b (map (landing who.node) (met_tuples (journal_of ran who.number))) []) + 0 ≡ cond b (sum_over (entry_weight V who.node) (journal_of ran who.number)) 0
      by_kind is true s = omega (arith, sink_counts who is (journal_of ran who.number) s)
      by_kind is false s = refl

  halves : (b : Bool) (x : ℕ) → x ≡ cond b x 0 + cond b 0 x
  halves true x = omega arith
  halves false x = omega arith

  pub same_count : count_by test (landings ran) ≡ count_by test (flat_map (λ (row : Row). alone ran.setup.job (T row.tuple.row) row) rows)
  same_count =
      let met_at : Worker → ℕ = λ (who : Worker). sum_over (entry_weight V who.node) (journal_of ran who.number) in
      let at_sink : Worker → ℕ = λ (who : Worker). cond (is_sink who.func) (sum_over (entry_weight V who.node) (journal_of ran who.number)) 0 in
      let elsewhere : Worker → ℕ = λ (who : Worker). cond (is_sink who.func) 0 (sum_over (entry_weight V who.node) (journal_of ran who.number)) in
      let all : List Worker = workers_in ran.setup.job in
      let flows = flow rows ran g V (feeder_fits rows ran g sources) (worker_fits rows ran g) in
      let made_is : sum_over (λ (who : Worker). sum_over (put_weight V ran.setup.job) (all_puts ran who.number)) all ≡ sum_over elsewhere all =
      sum_same (λ (who : Worker). sum_over (put_weight V ran.setup.job) (all_puts ran who.number)) elsewhere all worker_keeps in
      let parts : sum_over met_at all ≡ sum_over at_sink all + sum_over elsewhere all =
      sum_same met_at (λ (who : Worker). at_sink who + elsewhere who) all (λ who i. halves (is_sink who.func) (met_at who)) ∙ sum_add at_sink elsewhere all in
      let lands_is : count_by test (landings ran) ≡ sum_over at_sink all =
      count_flat_map test (λ (who : Worker). flat_map (landings_by who) (journals_at ran.journals (who ∷ []))) all
      ∙ sum_same (λ (who : Worker). count_by test (flat_map (landings_by who) (journals_at ran.journals (who ∷ [])))) at_sink all worker_lands in
      let alone_is : count_by test (flat_map (λ (row : Row). alone ran.setup.job (T row.tuple.row) row) rows) ≡ sum_over row_weight rows = count_flat_map test (λ (row : Row). alone ran.setup.job (T row.tuple.row) row) rows in
      omega (arith, flows, made_is, parts, lands_is, alone_is, feed_weighs)

-- the functions that a row met are such a table
table_alike : (rows : List Row) (ran : Ran) (g : Running rows ran) (row node : ℕ) (def : NodeDef) (r : ℕ) → slice_get ran.setup.job.nodes node ≡ Some def
    → AreAlike ran.setup.job.edges node def.func (func_for ran row node def.func r)
table_alike rows ran g row node def zero there = alike_self ran.setup.job.edges node def.func
table_alike rows ran g row node def (suc r) there = go (is_new ran (suc r) row) (table_alike rows ran g row node def r there)
  where
    with_change : (o : Option Change) → change_by ran.setup (suc r) node ≡ o → AreAlike ran.setup.job.edges node def.func (func_for ran row node def.func r)
        → AreAlike ran.setup.job.edges node def.func (func_with o (func_for ran row node def.func r))
    with_change None e a = a
    with_change (Some change) e a = changed_alike ran.setup (suc r) node def change g.kinds there e

    go : (b : Bool) → AreAlike ran.setup.job.edges node def.func (func_for ran row node def.func r)
        → AreAlike ran.setup.job.edges node def.func (cond b (func_with (change_by ran.setup (suc r) node) (func_for ran row node def.func r)) (func_for ran row node def.func r))
    go true a = with_change (change_by ran.setup (suc r) node) refl a
    go false a = a

met_tables : (rows : List Row) (ran : Ran) (g : Running rows ran) → AreTables ran (table ran)
met_tables rows ran g = record {
  gives = λ row node def there.
      (func_for ran row node def.func (length ran.setup.requests), ap (func_for_node ran row node) there, table_alike rows ran g row node def (length ran.setup.requests) there);
  in_force = λ w i l t m lt at met.
      let is : IsWorker ran.setup.job (worker_no ran.setup w) = (worker_is ran.setup w lt).1 in
      ap (func_for_node ran t.row (worker_no ran.setup w).node) is.node_is
      ∙ ap Some (ap (λ (f : Func). func_for ran t.row (worker_no ran.setup w).node f (length ran.setup.requests)) (sym is.func_is) ∙ sym (by_table rows ran g w lt i l t m at met));
}

pub one_table : (rows : List Row) (ran : Ran) (g : Running rows ran) → HasNoCounts ran.setup.job → AreFromSources ran.setup.job rows → IsOneTable rows ran
one_table rows ran g none sources test = same_count rows ran g none sources (table ran) (met_tables rows ran g) test
