-- What a run leaves to save: the keys of a worker's counts are those that are led to it.
use Rattle.std.proofs.Common.{Equal, Greater, Less, Ordering, ◌≡◌, ◌∙◌, ◌<◌, ◌+◌, ◌++◌, ◌==◌, ◌&&◌, ◌||◌, ℕ, ℤ, List, [], ◌∷◌, ◌⊎◌, inl, inr, refl, sym, subst, ap, arith, true, false, Bool, map, filter, nat_le, Some, None, Option, IsTrue, option_map, slice_get, take, All}
use Rattle.std.specs.Prelude.{int_le}
use Rattle.std.specs.Cmp.Lexicographic.{nat_list_cmp_total, slice_cmp}
use Rattle.std.specs.FinMap.{empty, entries, entries-insert, from_entries, insert}
use Rattle.std.specs.FinMap.Entries.{by_order, put}
use Rattle.std.specs.List.{enumerate_from}
use Rattle.std.specs.Ordering.{nat_cmp}
use Rattle.std.proofs.lemmas.Bool.{and_parts, eq-eqb, or_cases}
use Rattle.std.proofs.lemmas.Option.{same_Some, slice_get-map, slice_get_within}
use Rattle.flow_dag.specs.declared.edge.Edge.{Edge}
use Rattle.jobs.specs.Kinds.{key_of}
use Rattle.jobs.specs.Nodes.{fan_out, is_count, is_free, is_source_node, worker_count, workers_of}
use Rattle.jobs.specs.JobView.{JobView}
use Rattle.jobs.specs.declared.func.Func.{Func}
use Rattle.jobs.specs.declared.func.NodeDef.{NodeDef}
use Rattle.jobs.proofs.RoleLemmas.{kind_row}
use Rattle.keyed_state.specs.Counts.{Counts, carried, clamp, scaled}
use Rattle.keyed_state.specs.declared.carry.Carry.{Carry}
use Rattle.keyed_state.specs.declared.carry.Carry.TheVariants as carry
use Rattle.operators.specs.Fields.{text_at}
use Rattle.operators.specs.Lanes.{worker_at, worker_by}
use Rattle.operators.specs.Meaning.{counts_after, outputs}
use Rattle.operators.proofs.CountLemmas.{counts_cases}
use Rattle.sink_journal.specs.declared.journal.Entry.{Entry}
use Rattle.sink_journal.specs.declared.journal.Entry.TheVariants as entry
use Rattle.tuple_trace.specs.Spread.{spread_of}
use Rattle.tuple_trace.specs.declared.row.Row.{Row}
use Rattle.tuple_trace.specs.declared.tuple.Item.{Item}
use Rattle.tuple_trace.specs.declared.tuple.Item.TheVariants as item
use Rattle.tuple_trace.specs.declared.tuple.Tuple.{Tuple}
use Rattle.versions.specs.Judging.{is_like, leaves_once, may_replace}
use Rattle.versions.specs.Kept.{KeepKinds, KeepsKind}
use Rattle.versions.proofs.KeptLemmas.{are_like}
use Rattle.versions.specs.declared.request.Change.{Change}
use Rattle.versions.specs.declared.request.Request.{Request}
use Rattle.flow_model.specs.Begin.{at_first, view_at}
use Rattle.flow_model.specs.Feeding.{fed, fed_puts, fed_tuple}
use Rattle.flow_model.specs.Lanes.{first_on, lane_along, lane_of, receiver_of}
use Rattle.flow_model.specs.Replay.{Put, StateView, after, after_all, came_in, put_out, puts, items_sent, shown, visit_at, after_change}
use Rattle.flow_model.specs.Requests.{change_by}
use Rattle.flow_model.specs.Run.{Ran}
use Rattle.flow_model.specs.SetupView.{SetupView, Worker}
use Rattle.flow_model.specs.Workers.{node_workers, workers_at_node, workers_in}
use Rattle.flow_model.specs.declared.topology.Lane.{Lane}
use Rattle.flow_model.proofs.AgreementLemmas.{met_shown}
use Rattle.flow_model.proofs.ElementLemmas.{IsIn, all_of_at, at_of_all, flat_map_in, in_cases, in_filter, in_flat_map, in_map, in_of_place}
use Rattle.flow_model.proofs.KindLemmas.{change_there}
use Rattle.flow_model.proofs.LaneLemmas.{LaneIn, lane_in}
use Rattle.flow_model.proofs.MarkerLemmas.{met_on_lane}
use Rattle.flow_model.proofs.RunLemmas.{HasWorker, Running, duties_of, execution, fed_there, in_fed_puts, sender_of, sent_there, start_of}
use Rattle.flow_model.proofs.SendingLemmas.{in_items, puts_come}
use Rattle.flow_model.proofs.StoryLemmas.{put_then, sent-story, story}
use Rattle.flow_model.proofs.WorkerLemmas.{IsWorker, Stands, begun, in_workers_at_node, item_at, journal_is, journal_of, same_who, who_is, who_there, worker_is, worker_no}
use Rattle.flow_model.proofs.WorkerListLemmas.{get-node_workers, length-node_workers, who_by, workers_at_node-node}
use Rattle.savepoint.specs.SaveReading.{is_led_to, place_of_key}
use Rattle.savepoint.proofs.StateLemmas.{counts-alone, none_there}

-- ---- the keys of counts

-- each key passes
abbrev KeysAre : (List ℕ → Type 0) → Counts → Type 0
KeysAre P counts = (e : List ℕ × ℤ) → IsIn e (entries counts) → P e.0

keys_put : (P : List ℕ → Type 0) (k : List ℕ) (v : ℤ) (es : List (List ℕ × ℤ)) → P k → ((e : List ℕ × ℤ) → IsIn e es → P e.0) → (e : List ℕ × ℤ) → IsIn e (put (slice_cmp nat_cmp) k v es) → P e.0
keys_put P k v [] s h e (inl p) = subst (λ (x : List ℕ × ℤ). P x.0) (sym p) s
keys_put P k v [] s h e (inr i) = absurd i
keys_put P k v (f ∷ es) s h e i = go (slice_cmp nat_cmp k f.0) i (keys_put P k v es s (λ g j. h g (inr j)) e)
  where
    go : (o : Ordering) → IsIn e (by_order o ((k, v) ∷ f ∷ es) ((f.0, v) ∷ es) (f ∷ put (slice_cmp nat_cmp) k v es)) → (IsIn e (put (slice_cmp nat_cmp) k v es) → P e.0) → P e.0
    go Less (inl p) later = subst (λ (x : List ℕ × ℤ). P x.0) (sym p) s
    go Less (inr j) later = h e j
    go Equal (inl p) later = subst (λ (x : List ℕ × ℤ). P x.0) (sym p) (h f (inl refl))
    go Equal (inr j) later = h e (inr j)
    go Greater (inl p) later = subst (λ (x : List ℕ × ℤ). P x.0) (sym p) (h f (inl refl))
    go Greater (inr j) later = later j

keys_insert : (P : List ℕ → Type 0) (counts : Counts) (k : List ℕ) (v : ℤ) → P k → KeysAre P counts → KeysAre P (insert counts k v)
keys_insert P counts k v s h e i = keys_put P k v (entries counts) s h e (subst (λ (l : List (List ℕ × ℤ)). IsIn e l) (entries-insert nat_list_cmp_total counts k v) i)

keys_empty : (P : List ℕ → Type 0) → KeysAre P empty
keys_empty P e i = absurd (subst (λ (l : List (List ℕ × ℤ)). IsIn e l) (none_there empty refl) i)

keys_made : (P : List ℕ → Type 0) (es : List (List ℕ × ℤ)) → ((e : List ℕ × ℤ) → IsIn e es → P e.0) → KeysAre P (from_entries es)
keys_made P [] h = keys_empty P
keys_made P (e ∷ es) h = keys_insert P (from_entries es) e.0 e.1 (h e (inl refl)) (keys_made P es (λ f i. h f (inr i)))

keys_carried : (P : List ℕ → Type 0) (c : Carry) (counts : Counts) → KeysAre P counts → KeysAre P (carried c counts)
keys_carried P carry.Keep counts h = h
keys_carried P carry.Reset counts h = keys_empty P
keys_carried P (carry.Scale by over) counts h =
    keys_made P (map (λ (e : List ℕ × ℤ). (e.0, scaled by over e.1)) (entries counts)) (λ e i.
    let r = in_map (λ (e : List ℕ × ℤ). (e.0, scaled by over e.1)) e (entries counts) i in
    subst (λ (x : List ℕ × ℤ). P x.0) (sym r.2) (h r.0 r.1))
keys_carried P (carry.DropBelow least) counts h =
    keys_made P (filter (λ (e : List ℕ × ℤ). int_le least e.1) (entries counts)) (λ e i. h e (in_filter (λ (e : List ℕ × ℤ). int_le least e.1) e (entries counts) i).0)

keys_after : (P : List ℕ → Type 0) (job : JobView) (f : Func) (counts : Counts) (t : Tuple) → ((k : ℕ) → key_of f ≡ Some k → P (text_at job.columns t.fields k)) → KeysAre P counts
    → KeysAre P (counts_after job f counts t)
keys_after P job f counts t m h =
    elim (counts_cases job f counts t) [
      | inl same ↦ subst (KeysAre P) (sym same) h
      | inr set ↦ subst (KeysAre P) (sym set.after) (keys_insert P counts (text_at job.columns t.fields set.key) (clamp set.sum) (m set.key set.key_is) h)
    ]

-- ---- the key of a function

-- what may replace a count counts by its key
same_key : (f g : Func) (roof : ℕ) (once : Bool) → is_count f ≡ true → may_replace f g roof once ≡ true → key_of g ≡ key_of f
same_key f g roof once c h =
    let p = and_parts (is_like f g || (is_free f && is_free g && once)) (nat_le (fan_out g) roof) h in
    elim (or_cases (is_like f g) (is_free f && is_free g && once) p.0) [
      | inl like ↦ sym (are_like f g like).key
      | inr free ↦
          let no : is_count f ≡ false = ((kind_row f).of_free (and_parts (is_free f) (is_free g) (and_parts (is_free f && is_free g) once free).0).0).counts in
          absurd (cc)
    ]

changed_key : (setup : SetupView) (r node : ℕ) (def : NodeDef) (change : Change) → KeepKinds setup.job setup.requests → slice_get setup.job.nodes node ≡ Some def → is_count def.func ≡ true
    → change_by setup r node ≡ Some change → key_of change.func ≡ key_of def.func
changed_key setup r node def change kinds g c h =
    let (request, asked, among, at) = change_there setup r node change h in
    let all : All (KeepsKind setup.job) request.changes = at_of_all (λ (request : Request). All (KeepsKind setup.job) request.changes) request setup.requests kinds asked in
    let one : KeepsKind setup.job change = at_of_all (KeepsKind setup.job) change request.changes all among in
    same_key def.func change.func def.roof (leaves_once setup.job.edges node) c
    (subst (λ n. may_replace def.func change.func def.roof (leaves_once setup.job.edges n) ≡ true) at (one def (rw at g)))

-- a worker of a count that meets only keys that pass has counts of these alone
module _ (P : List ℕ → Type 0) (setup : SetupView) (kinds : KeepKinds setup.job setup.requests) (who : Worker) (def : NodeDef) (there : slice_get setup.job.nodes who.node ≡ Some def)
    (counts_here : is_count def.func ≡ true)
  where
    keys_stay : (view : StateView) (journal : List Entry) → key_of view.func ≡ key_of def.func
        → ((l : ℕ) (t : Tuple) → IsIn (entry.Met l t) journal → (k : ℕ) → key_of def.func ≡ Some k → P (text_at setup.job.columns t.fields k))
        → KeysAre P view.counts → KeysAre P (after_all setup who view journal).counts
    keys_stay view [] same m h = h
    keys_stay view (entry.Met l t ∷ more) same m h =
        keys_stay (after setup who view (entry.Met l t)) more same (λ n u i. m n u (inr i)) (keys_after P setup.job view.func view.counts t (λ k e. m l t (inl refl) k (sym same ∙ e)) h)
    keys_stay view (entry.Marked l r ∷ more) same m h = keys_stay view more same (λ n u i. m n u (inr i)) h
    keys_stay view (entry.Turned r ∷ more) same m h =
        let k = turned (change_by setup r who.node) refl in
        keys_stay (after setup who view (entry.Turned r)) more k.0 (λ n u i. m n u (inr i)) k.1
      where
        turned : (o : Option Change) → change_by setup r who.node ≡ o → (key_of (after_change o view).func ≡ key_of def.func) × KeysAre P (after_change o view).counts
        turned None g = (same, h)
        turned (Some change) g = (changed_key setup r who.node def change kinds there counts_here g, keys_carried P change.carry view.counts h)
    keys_stay view (entry.Ended l ∷ more) same m h = keys_stay (after setup who view (entry.Ended l)) more same (λ n u i. m n u (inr i)) h

-- ---- the worker to which a tuple is led

place_at : (number node : ℕ) (f : Func) (count k : ℕ) (who : Worker) → slice_get (node_workers number node f 0 count) k ≡ Some who → k ≡ who.place
place_at number node f count k who g =
    let lt : k < count = omega (arith, slice_get_within (node_workers number node f 0 count) k who g, length-node_workers number node f 0 count) in
    let e : who ≡ who_by (number + k) node f (0 + k) = same_Some who (who_by (number + k) node f (0 + k)) (sym g ∙ get-node_workers number node f 0 count k lt) in
    let p : who.place ≡ 0 + k = ap (λ (p : Worker). p.place) e in
    omega (arith, p)

-- a tuple that is put on a lane into a worker of a count has a key that is led to the worker
lane_leads : (job : JobView) (sender : Option ℕ) (node port : ℕ) (t : Tuple) (lane : Lane) (who : Worker) (is : IsWorker job who) (k : ℕ)
    → lane_of job sender node port t ≡ Some lane → lane.receiver ≡ who.number → key_of is.def.func ≡ Some k → spread_of (text_at job.columns t.fields k) is.def.workers ≡ who.place
lane_leads job sender node port t lane who is k h r key = by_edge (first_on node port (enumerate_from 0 job.edges)) h
  where
    by_edge : (o : Option (ℕ × Edge)) → lane_along job sender o t ≡ Some lane → spread_of (text_at job.columns t.fields k) is.def.workers ≡ who.place
    by_edge None h = absurd (cc)
    by_edge (Some found) h = by_receiver (receiver_of job found.1 t) refl h
      where
        by_receiver : (o : Option Worker) → receiver_of job found.1 t ≡ o
            → option_map (λ (p : Worker). record { edge = found.0; sender = sender; receiver = p.number }) o ≡ Some lane → spread_of (text_at job.columns t.fields k) is.def.workers ≡ who.place
        by_receiver None e h = absurd (cc)
        by_receiver (Some p) e h =
            let number : p.number ≡ lane.receiver = ap (λ (l : Lane). l.receiver) (same_Some {A = Lane} (record { edge = found.0; sender = sender; receiver = p.number }) lane h) in
            let among = in_workers_at_node job found.1.to p (in_of_place p (workers_at_node job found.1.to) (worker_at job.columns (slice_get job.nodes found.1.to) t) e) in
            let same : p ≡ who = same_who job p who among.0 (in_of_place who (workers_in job) who.number is.there) (number ∙ r) in
            let to : found.1.to ≡ who.node = sym among.1 ∙ ap (λ (w : Worker). w.node) same in
            let at : worker_at job.columns (slice_get job.nodes found.1.to) t ≡ spread_of (text_at job.columns t.fields k) is.def.workers =
            ap (λ (n : ℕ). worker_at job.columns (slice_get job.nodes n) t) to ∙ (ap (λ (o : Option NodeDef). worker_at job.columns o t) is.node_is
            ∙ ap (λ (o : Option ℕ). worker_by job.columns o is.def.workers t) key) in
            let listed : workers_at_node job found.1.to ≡ node_workers (worker_count (take who.node job.nodes)) who.node is.def.func 0 (workers_of is.def) =
            ap (workers_at_node job) to ∙ workers_at_node-node job who.node is.def is.node_is in
            let here : slice_get (node_workers (worker_count (take who.node job.nodes)) who.node is.def.func 0 (workers_of is.def)) (worker_at job.columns (slice_get job.nodes found.1.to) t) ≡ Some p =
            subst (λ (l : List Worker). slice_get l (worker_at job.columns (slice_get job.nodes found.1.to) t) ≡ Some p) listed e in
            sym at ∙ (place_at (worker_count (take who.node job.nodes)) who.node is.def.func (workers_of is.def) (worker_at job.columns (slice_get job.nodes found.1.to) t) p here
            ∙ ap (λ (w : Worker). w.place) same)

-- a worker of a count meets only tuples whose keys are led to it
module _ (rows : List Row) (ran : Ran) (g : Running rows ran) (w : ℕ) (lt : HasWorker ran w) (k : ℕ) (key : key_of (worker_is ran.setup w lt).1.def.func ≡ Some k) where
  abbrev here : Worker
  here = worker_no ran.setup w

  abbrev worker : IsWorker ran.setup.job here
  worker = (worker_is ran.setup w lt).1

  abbrev Led : Tuple → Type 0
  Led t = spread_of (text_at ran.setup.job.columns t.fields k) worker.def.workers ≡ here.place

  fed_led : (lane : Lane) (t : Tuple) → lane.receiver ≡ here.number → IsIn (item.Carry t) (fed ran.setup.job rows 0 lane ran.feeds ++ item.Last ∷ []) → Led t
  fed_led lane t to i =
      elim (in_cases (item.Carry t) (fed ran.setup.job rows 0 lane ran.feeds) (item.Last ∷ []) i) [
        | inl a ↦
            let p = in_items lane (fed_puts ran.setup.job rows 0 ran.feeds) (item.Carry t) a in
            let r = in_fed_puts ran.setup.job rows 0 ran.feeds p.0 p.1 in
            let same : item.Carry t ≡ item.Carry (fed_tuple r.2 r.1) = p.3 ∙ ap (λ (p : Put). p.item) r.4 in
            let e : t ≡ fed_tuple r.2 r.1 = cc in
            let on : lane_of ran.setup.job None r.1.source 0 r.1.tuple ≡ Some lane = sym (ap (λ (p : Put). p.lane) r.4) ∙ p.2 in
            subst Led (sym e) (lane_leads ran.setup.job None r.1.source 0 r.1.tuple lane here worker k on to key)
        | inr (inl e) ↦ absurd (cc)
        | inr (inr n) ↦ absurd n
      ]

  put_led : (lane : Lane) (t : Tuple) (who : Worker) (view : StateView) (e : Entry) (p : Put) → lane.receiver ≡ here.number → IsIn p (puts ran.setup who view e) → p.lane ≡ Some lane → item.Carry t ≡ p.item → Led t
  put_led lane t who view (entry.Met n u) p to i on same =
      let o = in_map (put_out ran.setup.job who) p (outputs ran.setup.job (visit_at who view) view.func view.counts u) i in
      let both : item.Carry t ≡ item.Carry o.0.tuple = same ∙ ap (λ (p : Put). p.item) o.2 in
      let e : t ≡ o.0.tuple = cc in
      let goes : lane_of ran.setup.job (Some who.number) who.node o.0.port o.0.tuple ≡ Some lane = sym (ap (λ (p : Put). p.lane) o.2) ∙ on in
      subst Led (sym e) (lane_leads ran.setup.job (Some who.number) who.node o.0.port o.0.tuple lane here worker k goes to key)
  put_led lane t who view (entry.Marked n r) p to i on same = absurd i
  put_led lane t who view (entry.Turned r) p to i on same =
      let c = puts_come ran.setup who view (entry.Turned r) p i in
      let both : item.Carry t ≡ item.Mark r c.0.nodes = same ∙ c.2 in
      absurd (cc)
  put_led lane t who view (entry.Ended n) p to i on same =
      let c = puts_come ran.setup who view (entry.Ended n) p i in
      let both : item.Carry t ≡ item.Last = same ∙ c in
      absurd (cc)

  sent_led : (s : ℕ) (lane : Lane) (t : Tuple) → lane.receiver ≡ here.number → IsIn (item.Carry t) (items_sent ran.setup (worker_no ran.setup s) (begun ran.setup s) lane (journal_of ran s)) → Led t
  sent_led s lane t to i =
      let who : Worker = worker_no ran.setup s in
      let x = in_flat_map (put_then ran.setup who lane) (item.Carry t) (story ran.setup who (begun ran.setup s) (journal_of ran s))
      (subst (λ (xs : List Item). IsIn (item.Carry t) xs) (sent-story ran.setup who (begun ran.setup s) lane (journal_of ran s)) i) in
      let p = in_items lane (puts ran.setup who x.0.view x.0.entry) (item.Carry t) x.2 in
      put_led lane t who x.0.view x.0.entry p.0 to p.1 p.2 p.3

  by_sender : (l : ℕ) (t : Tuple) (into : LaneIn ran.setup.job here l) → IsIn (item.Carry t) (shown ran.setup l (journal_of ran w))
      → ((into.lane.sender ≡ None) × (is_source_node (slice_get ran.setup.job.nodes into.edge.from) ≡ true)) ⊎ ((s : ℕ) × (into.lane.sender ≡ Some s) × Stands ran.setup into.edge.from s) → Led t
  by_sender l t into i (inl f) = fed_led into.lane t into.receiver (subst (λ (xs : List Item). IsIn (item.Carry t) xs) (fed_there rows ran g l w lt into f.0) i)
  by_sender l t into i (inr s) =
      sent_led s.0 into.lane t into.receiver (subst (λ (xs : List Item). IsIn (item.Carry t) xs) (sent_there rows ran g l w s.0 lt s.2.within into s.1) i)

  met_led : (l : ℕ) (t : Tuple) → IsIn (entry.Met l t) (journal_of ran w) → Led t
  met_led l t i =
      let into : LaneIn ran.setup.job here l = lane_in ran.setup.job here l worker (met_on_lane (duties_of ran w) (start_of ran w) (journal_of ran w) l t (execution rows ran g w lt) i) in
      by_sender l t into (flat_map_in (came_in ran.setup l) (entry.Met l t) (item.Carry t) (journal_of ran w) i (met_shown ran.setup l t)) (sender_of rows ran g into.edge.from into.lane.sender into.sends)

-- ---- at the end of a run

abbrev pub AllLed : JobView → Worker → Counts → Type 0
AllLed job who counts = All (λ (e : List ℕ × ℤ). IsTrue (is_led_to job e.0 who)) (entries counts)

led_at : (rows : List Row) (ran : Ran) (g : Running rows ran) (w : ℕ) (lt : HasWorker ran w) (counts : Counts) → slice_get ran.states w ≡ Some counts → (b : Bool) → is_count (worker_no ran.setup w).func ≡ b
    → AllLed ran.setup.job (worker_no ran.setup w) counts
led_at rows ran g w lt counts s false c =
    let who : Worker = worker_no ran.setup w in
    let none : entries counts ≡ [] = counts-alone rows ran g w who counts (who_there ran.setup w lt) s c in
    all_of_at (λ (e : List ℕ × ℤ). IsTrue (is_led_to ran.setup.job e.0 who)) (entries counts) (λ e i. absurd (subst (λ (l : List (List ℕ × ℤ)). IsIn e l) none i))
led_at rows ran g w lt counts s true c =
    let who : Worker = worker_no ran.setup w in
    let is : IsWorker ran.setup.job who = (worker_is ran.setup w lt).1 in
    let P : List ℕ → Type 0 = λ (text : List ℕ). spread_of text is.def.workers ≡ who.place in
    let journal = item_at ran.journals w (omega (arith, g.run.one_journal_each)) in
    let at : slice_get (at_first ran.setup).states w ≡ Some empty = slice_get-map (λ (who : Worker). empty) (workers_in ran.setup.job) w ∙ ap (option_map (λ (who : Worker). empty)) (who_there ran.setup w lt) in
    let worked = g.run.worked w who empty journal.0 counts (who_there ran.setup w lt) at journal.1 s in
    let stay : KeysAre P (after_all ran.setup who (view_at ran.setup 0 who empty) journal.0).counts =
    keys_stay P ran.setup g.kinds who is.def is.node_is (ap is_count (sym is.func_is) ∙ c) (view_at ran.setup 0 who empty) journal.0 (ap key_of is.func_is)
    (λ l t i k e. met_led rows ran g w lt k e l t (subst (λ (j : List Entry). IsIn (entry.Met l t) j) (sym (journal_is ran w journal.0 journal.1)) i)) (keys_empty P) in
    let keys : KeysAre P counts = subst (KeysAre P) (sym worked.state_is) stay in
    all_of_at (λ (e : List ℕ × ℤ). IsTrue (is_led_to ran.setup.job e.0 who)) (entries counts) (λ e i.
    ap (λ (o : Option NodeDef). place_of_key o e.0 == who.place) is.node_is ∙ eq-eqb (spread_of e.0 is.def.workers) who.place (keys e i))

pub keys_led : (rows : List Row) (ran : Ran) (g : Running rows ran) (w : ℕ) (who : Worker) (counts : Counts) → slice_get (workers_in ran.setup.job) w ≡ Some who → slice_get ran.states w ≡ Some counts
    → AllLed ran.setup.job who counts
keys_led rows ran g w who counts p s =
    subst (λ (v : Worker). AllLed ran.setup.job v counts) (who_is ran.setup w who p)
    (led_at rows ran g w (slice_get_within (workers_in ran.setup.job) w who p) counts s (is_count (worker_no ran.setup w).func) refl)
