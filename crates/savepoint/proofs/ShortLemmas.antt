-- Texts stay short: what a function makes of short texts.
use Rattle.std.proofs.Common.{◌≡◌, ◌∙◌, ◌<◌, ◌≤◌, ◌+◌, ◌++◌, ◌==◌, ◌&&◌, ◌⊎◌, ℕ, ℤ, zero, suc, List, [], ◌∷◌, inl, inr, refl, sym, subst, ap, arith, true, false, Bool, cond, length, filter, nat_le, slice_set, take, All, Some, None, Option, slice_get}
use Rattle.std.specs.Prelude.{int_le, is_some, pos, unwrap_or}
use Rattle.std.specs.Cmp.Lexicographic.{slice_cmp}
use Rattle.std.specs.FinMap.{entries, get, get-entries}
use Rattle.std.specs.FinMap.Entries.{find}
use Rattle.std.specs.List.{enumerate_from, list_all}
use Rattle.std.specs.Option.{option_or}
use Rattle.std.specs.Ordering.{eq_by_cmp, nat_cmp}
use Rattle.std.proofs.lemmas.Bool.Decides.{nat_tests}
use Rattle.std.proofs.lemmas.List.{length-append}
use Rattle.flow_dag.specs.declared.edge.Edge.{Edge}
use Rattle.jobs.specs.Nodes.{is_source_node}
use Rattle.jobs.specs.Ports.{has_port, leaves}
use Rattle.jobs.specs.declared.func.NodeDef.{NodeDef}
use Rattle.jobs.specs.Limits.{HasLimits, Oversize, entry_oversize, first_oversize, kept, oversize, table_oversize, text_oversize, value_oversize}
use Rattle.jobs.specs.declared.fault.Which.TheVariants as which
use Rattle.jobs.specs.JobView.{JobView}
use Rattle.jobs.specs.declared.column.Column.{Column}
use Rattle.jobs.specs.declared.func.Func.{Func}
use Rattle.jobs.specs.declared.func.Func.TheVariants as func
use Rattle.jobs.specs.declared.func.Step.{Step}
use Rattle.jobs.specs.declared.table.Table.{Table}
use Rattle.keyed_state.specs.Counts.{Counts}
use Rattle.operators.specs.Arithmetic.{after_step, after_steps}
use Rattle.operators.specs.Fields.{field_at, text_at, written_at}
use Rattle.operators.specs.Conditions.{meets}
use Rattle.operators.specs.Meaning.{born, clamped_number, count_after, looked_up, met_after, outputs, piece_sent}
use Rattle.operators.specs.Meaning.{sent as sent_out}
use Rattle.operators.specs.declared.output.Output.{Output}
use Rattle.operators.specs.Pieces.{pieces, pieces_from}
use Rattle.tuple_trace.specs.Values.{as_text}
use Rattle.tuple_trace.specs.declared.value.Value.{Value}
use Rattle.tuple_trace.specs.declared.value.Value.TheVariants as value
use Rattle.sink_journal.specs.declared.journal.Entry.{Entry}
use Rattle.sink_journal.specs.declared.journal.Entry.TheVariants as entry
use Rattle.tuple_trace.specs.declared.row.Row.{Row}
use Rattle.tuple_trace.specs.declared.tuple.Item.{Item}
use Rattle.tuple_trace.specs.declared.tuple.Item.TheVariants as item
use Rattle.tuple_trace.specs.declared.tuple.Tuple.{Tuple}
use Rattle.tuple_trace.specs.declared.tuple.Visit.{Visit}
use Rattle.versions.specs.declared.request.Change.{Change}
use Rattle.versions.specs.declared.request.Request.{Request}
use Rattle.flow_model.specs.Feeding.{fed, fed_puts, fed_tuple, row_numbered}
use Rattle.flow_model.specs.declared.topology.Lane.{Lane}
use Rattle.flow_model.specs.SetupView.{SetupView, Worker}
use Rattle.flow_model.specs.Replay.{StateView, Put, after, came_in, put_out, puts, items_sent, shown, visit_at, after_change}
use Rattle.flow_model.specs.Requests.{change_by}
use Rattle.flow_model.specs.Run.{Ran}
use Rattle.flow_model.proofs.AgreementLemmas.{met_shown}
use Rattle.flow_model.proofs.ElementLemmas.{IsIn, all_of_at, at_of_all, flat_map_in, in_cases, in_flat_map, in_map, in_of_place}
use Rattle.flow_model.proofs.KindLemmas.{change_there}
use Rattle.flow_model.proofs.LaneLemmas.{LaneIn, lane_in}
use Rattle.flow_model.proofs.MarkerLemmas.{met_on_lane}
use Rattle.flow_model.proofs.RunLemmas.{HasWorker, Running, execution, fed_there, in_fed_puts, sender_of, sent_there, start_of, duties_of}
use Rattle.flow_model.proofs.SendingLemmas.{in_items, puts_come}
use Rattle.flow_model.proofs.StoryLemmas.{Moment, entry_in, put_then, sent-story, story}
use Rattle.flow_model.proofs.WorkerLemmas.{IsWorker, Stands, begun, journal_of, worker_no, worker_is}
use Rattle.jobs.specs.Limits.{HasShortTexts}
use Rattle.versions.specs.Kept.{HaveLimits}
use Rattle.savepoint.proofs.SmallLemmas.{short_text}

abbrev pub IsShort : Value → Type 0
IsShort v = length (as_text (Some v)) ≤ 48

abbrev pub AreShort : List Value → Type 0
AreShort fields = (v : Value) → IsIn v fields → IsShort v

short_number : (z : ℤ) → IsShort (value.Num z)
short_number z = omega arith

in_set : {A : Type 0} (x v : A) (xs : List A) (i : ℕ) → IsIn x (slice_set xs i v) → (x ≡ v) ⊎ IsIn x xs
in_set x v [] i h = absurd h
in_set x v (y ∷ ys) zero (inl e) = inl e
in_set x v (y ∷ ys) zero (inr j) = inr (inr j)
in_set x v (y ∷ ys) (suc i) (inl e) = inr (inl e)
in_set x v (y ∷ ys) (suc i) (inr j) = elim (in_set x v ys i j) [ inl a ↦ inl a | inr b ↦ inr (inr b) ]

short_written : (columns : List Column) (fields : List Value) (column : ℕ) (v : Value) → AreShort fields → IsShort v → AreShort (written_at columns fields column v)
short_written columns fields column v h s = go (is_some (field_at columns fields column))
  where
    go : (b : Bool) → AreShort (cond b (slice_set fields column v) fields)
    go true x i = elim (in_set x v fields column i) [ inl e ↦ subst IsShort (sym e) s | inr j ↦ h x j ]
    go false x i = h x i

short_steps : (columns : List Column) (fields : List Value) (steps : List Step) → AreShort fields → AreShort (after_steps columns fields steps)
short_steps columns fields [] h = h
short_steps columns fields (step ∷ more) h = short_steps columns (after_step columns fields step) more (short_written columns fields step.column _ h (omega arith))

-- ---- limits

no_first : (a b : Option Oversize) → option_or a b ≡ None → (a ≡ None) × (b ≡ None)
no_first None b e = (refl, e)
no_first (Some x) b e = absurd (cc)

short_value : (v : Value) → value_oversize v ≡ None → IsShort v
short_value (value.Num z) e = omega arith
short_value (value.Text t) e = go (nat_le 0 (length t) && nat_le (length t) 48) refl e
  where
    within : (n : ℕ) → nat_le 0 n && nat_le n 48 ≡ true → n ≤ 48
    within n e = grind (arith, nat_tests)

    go : (b : Bool) → nat_le 0 (length t) && nat_le (length t) 48 ≡ b → cond {A = Option Oversize} b None (Some (which.Text, kept (length t))) ≡ None → length t ≤ 48
    go true is e = within (length t) is
    go false is e = absurd (cc)

each_none : {A : Type 0} (size : A → Option Oversize) (xs : List A) → first_oversize size xs ≡ None → (x : A) → IsIn x xs → size x ≡ None
each_none size [] e x i = absurd i
each_none size (y ∷ ys) e x (inl p) = ap size p ∙ (no_first (size y) (first_oversize size ys) e).0
each_none size (y ∷ ys) e x (inr j) = each_none size ys (no_first (size y) (first_oversize size ys) e).1 x j

found_in : (q : List ℕ) (es : List (List ℕ × Value)) (v : Value) → find (slice_cmp nat_cmp) q es ≡ Some v → (e : List ℕ × Value) × IsIn e es × (e.1 ≡ v)
found_in q [] v h = absurd (cc)
found_in q (e ∷ es) v h = go (eq_by_cmp (slice_cmp nat_cmp) q e.0) h (found_in q es v)
  where
    go : (b : Bool) → cond b (Some e.1) (find (slice_cmp nat_cmp) q es) ≡ Some v → (find (slice_cmp nat_cmp) q es ≡ Some v → (f : List ℕ × Value) × IsIn f es × (f.1 ≡ v))
        → (f : List ℕ × Value) × IsIn f (e ∷ es) × (f.1 ≡ v)
    go true h later = (e, inl refl, cc)
    go false h later = let r = later h in (r.0, inr r.1, r.2)

short_looked_up : (tables : List Table) (k : ℕ) (key : List ℕ) (other : Value) → All (λ (table : Table). table_oversize table ≡ None) tables → IsShort other → IsShort (looked_up (slice_get tables k) key other)
short_looked_up tables k key other limits s = by_table (slice_get tables k) refl
  where
    by_entry : (table : Table) → table_oversize table ≡ None → (o : Option Value) → get table.entries key ≡ o → IsShort (unwrap_or o other)
    by_entry table e None g = s
    by_entry table e (Some v) g =
        let f = found_in key (entries table.entries) v (sym (get-entries table.entries key) ∙ g) in
        subst IsShort f.2 (short_value f.0.1 (no_first (text_oversize f.0.0) (value_oversize f.0.1) (each_none entry_oversize (entries table.entries) e f.0 f.1)).1)

    by_table : (o : Option Table) → slice_get tables k ≡ o → IsShort (looked_up o key other)
    by_table None g = s
    by_table (Some table) g = by_entry table (at_of_all (λ (table : Table). table_oversize table ≡ None) table tables limits (in_of_place table tables k g)) (get table.entries key) refl

-- ---- pieces

short_piece : (by : ℕ) (begun text p : List ℕ) → IsIn p (pieces_from by begun text) → length p ≤ length begun + length text
short_piece by begun [] p (inl e) = let f : length p ≡ length begun = ap length e in omega arith
short_piece by begun [] p (inr i) = absurd i
short_piece by begun (byte ∷ rest) p i = go (byte == by) i (short_piece by [] rest p) (short_piece by (begun ++ byte ∷ []) rest p)
  where
    go : (b : Bool) → IsIn p (cond b (begun ∷ pieces_from by [] rest) (pieces_from by (begun ++ byte ∷ []) rest)) → (IsIn p (pieces_from by [] rest) → length p ≤ 0 + length rest)
        → (IsIn p (pieces_from by (begun ++ byte ∷ []) rest) → length p ≤ length (begun ++ byte ∷ []) + length rest) → length p ≤ length begun + length (byte ∷ rest)
    go true (inl e) f g = let h : length p ≡ length begun = ap length e in omega arith
    go true (inr j) f g = let h = f j in omega (arith, h)
    go false j f g = let h = g j in omega (arith, h, length-append begun (byte ∷ []))

pub in_take : {A : Type 0} (x : A) (n : ℕ) (xs : List A) → IsIn x (take n xs) → IsIn x xs
in_take x zero xs i = absurd i
in_take x (suc n) [] i = absurd i
in_take x (suc n) (y ∷ ys) (inl e) = inl e
in_take x (suc n) (y ∷ ys) (inr i) = inr (in_take x n ys i)

in_numbered : {A : Type 0} (k : ℕ) (p : ℕ × A) (xs : List A) → IsIn p (enumerate_from k xs) → IsIn p.1 xs
in_numbered k p [] i = absurd i
in_numbered {A} k p (x ∷ xs) (inl e) = inl (ap (λ (q : ℕ × A). q.1) e)
in_numbered k p (x ∷ xs) (inr i) = inr (in_numbered (k + 1) p xs i)

short_tuple : (tuple : Tuple) → AreShort tuple.fields → HasShortTexts tuple
short_tuple tuple h = all_of_at IsShort tuple.fields h

-- ---- what a function makes of short texts

pub short_outputs : (job : JobView) (visit : Visit) (f : Func) (counts : Counts) (tuple : Tuple) → All (λ (table : Table). table_oversize table ≡ None) job.tables → oversize f ≡ None → AreShort tuple.fields
    → (o : Output) → IsIn o (outputs job visit f counts tuple) → AreShort o.tuple.fields
short_outputs job visit (func.Filter conds) counts tuple limits e h o i = go (list_all (meets job.columns tuple.fields) conds) (has_port job.edges visit.node 1) i
  where
    one : (port : ℕ) → IsIn o (sent_out visit port tuple ∷ []) → AreShort o.tuple.fields
    one port (inl p) = subst (λ (o : Output). AreShort o.tuple.fields) (sym p) h
    one port (inr n) = absurd n

    go : (b c : Bool) → IsIn o (cond b (sent_out visit 0 tuple ∷ []) (cond c (sent_out visit 1 tuple ∷ []) [])) → AreShort o.tuple.fields
    go true c i = one 0 i
    go false true i = one 1 i
    go false false i = absurd i
short_outputs job visit (func.Map steps) counts tuple limits e h o (inl p) = subst (λ (o : Output). AreShort o.tuple.fields) (sym p) (short_steps job.columns tuple.fields steps h)
short_outputs job visit (func.Map steps) counts tuple limits e h o (inr i) = absurd i
short_outputs job visit (func.Enrich lookup) counts tuple limits e h o (inl p) =
    subst (λ (o : Output). AreShort o.tuple.fields) (sym p)
    (short_written job.columns tuple.fields lookup.into (looked_up (slice_get job.tables lookup.table) (text_at job.columns tuple.fields lookup.key) lookup.other) h
    (short_looked_up job.tables lookup.table (text_at job.columns tuple.fields lookup.key) lookup.other limits (short_value lookup.other e)))
short_outputs job visit (func.Enrich lookup) counts tuple limits e h o (inr i) = absurd i
short_outputs job visit (func.Count count) counts tuple limits e h o (inl p) =
    subst (λ (o : Output). AreShort o.tuple.fields) (sym p)
    (short_written job.columns tuple.fields count.into (value.Num (count_after job.columns count counts tuple)) h (short_number (count_after job.columns count counts tuple)))
short_outputs job visit (func.Count count) counts tuple limits e h o (inr i) = absurd i
short_outputs job visit (func.Dedupe dedupe) counts tuple limits e h o i = go (int_le (met_after job.columns dedupe counts tuple) (pos 1)) i
  where
    go : (b : Bool) → IsIn o (cond b (sent_out visit 0 tuple ∷ []) []) → AreShort o.tuple.fields
    go true (inl p) = subst (λ (o : Output). AreShort o.tuple.fields) (sym p) h
    go true (inr n) = absurd n
    go false i = absurd i
short_outputs job visit (func.Clamp clamp) counts tuple limits e h o (inl p) =
    subst (λ (o : Output). AreShort o.tuple.fields) (sym p)
    (short_written job.columns tuple.fields clamp.on (value.Num (clamped_number job.columns clamp tuple)) h (short_number (clamped_number job.columns clamp tuple)))
short_outputs job visit (func.Clamp clamp) counts tuple limits e h o (inr i) = absurd i
short_outputs job visit (func.Split split) counts tuple limits e h o i =
    let parts : List (List ℕ) = take split.most (pieces split.by (text_at job.columns tuple.fields split.on)) in
    let r = in_map (piece_sent job.columns visit split.on tuple) o (enumerate_from 0 parts) i in
    let p : IsIn r.0.1 (pieces split.by (text_at job.columns tuple.fields split.on)) = in_take r.0.1 split.most (pieces split.by (text_at job.columns tuple.fields split.on)) (in_numbered 0 r.0 parts r.1) in
    let le : length r.0.1 ≤ 0 + length (text_at job.columns tuple.fields split.on) = short_piece split.by [] (text_at job.columns tuple.fields split.on) r.0.1 p in
    let text : length (text_at job.columns tuple.fields split.on) ≤ 48 = short_text job.columns tuple split.on (short_tuple tuple h) in
    subst (λ (o : Output). AreShort o.tuple.fields) (sym r.2) (short_written job.columns tuple.fields split.on (value.Text r.0.1) h (omega (arith, le, text)))
short_outputs job visit func.Replicate counts tuple limits e h o i =
    let r = in_map (λ (e : Edge). sent_out visit e.port (born e.port tuple)) o (filter (leaves visit.node) job.edges) i in
    subst (λ (o : Output). AreShort o.tuple.fields) (sym r.2) h
short_outputs job visit _ counts tuple limits e h o i = absurd i

-- ---- a run

-- at each moment the function in force is short
short_func : (setup : SetupView) (who : Worker) (view : StateView) (journal : List Entry) (m : Moment) → HaveLimits setup.requests → oversize view.func ≡ None → IsIn m (story setup who view journal) → oversize m.view.func ≡ None
short_func setup who view [] m h e i = absurd i
short_func setup who view (x ∷ more) m h e (inl p) = ap (λ (m : Moment). oversize m.view.func) p ∙ e
short_func setup who view (x ∷ more) m h e (inr i) = short_func setup who (after setup who view x) more m h (next x) i
  where
    turned : (r : ℕ) (o : Option Change) → change_by setup r who.node ≡ o → oversize (after_change o view).func ≡ None
    turned r None g = e
    turned r (Some change) g =
        let (request, asked, among, at) = change_there setup r who.node change g in
        at_of_all (λ (change : Change). oversize change.func ≡ None) change request.changes (at_of_all (λ (request : Request). All (λ (change : Change). oversize change.func ≡ None) request.changes) request setup.requests h asked) among

    next : (x : Entry) → oversize (after setup who view x).func ≡ None
    next (entry.Met l t) = e
    next (entry.Marked l r) = e
    next (entry.Turned r) = turned r (change_by setup r who.node) refl
    next (entry.Ended l) = e

module _ (rows : List Row) (ran : Ran) (g : Running rows ran) (limits : HasLimits ran.setup.job) (requests : HaveLimits ran.setup.requests) (short : (row : Row) → IsIn row rows → AreShort row.tuple.fields) where
  -- what is met is short, worker after worker in the order of their nodes
  short_below : (bound w l : ℕ) (t : Tuple) → HasWorker ran w → g.connected.rank (worker_no ran.setup w).node < bound → IsIn (entry.Met l t) (journal_of ran w) → AreShort t.fields
  short_below zero w l t lt b i = absurd (omega arith)
  short_below (suc bound) w l t lt b i =
      let is : IsWorker ran.setup.job (worker_no ran.setup w) = (worker_is ran.setup w lt).1 in
      let k : LaneIn ran.setup.job (worker_no ran.setup w) l = lane_in ran.setup.job (worker_no ran.setup w) l is (met_on_lane (duties_of ran w) (start_of ran w) (journal_of ran w) l t (execution rows ran g w lt) i) in
      let up : g.connected.rank k.edge.from < g.connected.rank k.edge.to = g.connected.forward k.lane.edge k.edge k.edge_is in
      let here : g.connected.rank k.edge.to ≡ g.connected.rank (worker_no ran.setup w).node = ap g.connected.rank k.to in
      by_sender k (flat_map_in (came_in ran.setup l) (entry.Met l t) (item.Carry t) (journal_of ran w) i (met_shown ran.setup l t))
      (λ v n u lv nv j. short_below bound v n u lv (let e : g.connected.rank (worker_no ran.setup v).node ≡ g.connected.rank k.edge.from = ap g.connected.rank nv in omega arith) j)
      (sender_of rows ran g k.edge.from k.lane.sender k.sends)
    where
      fed_short : (lane : Lane) → IsIn (item.Carry t) (fed ran.setup.job rows 0 lane ran.feeds ++ item.Last ∷ []) → AreShort t.fields
      fed_short lane i =
          elim (in_cases (item.Carry t) (fed ran.setup.job rows 0 lane ran.feeds) (item.Last ∷ []) i) [
            | inl a ↦
                let p = in_items lane (fed_puts ran.setup.job rows 0 ran.feeds) (item.Carry t) a in
                let r = in_fed_puts ran.setup.job rows 0 ran.feeds p.0 p.1 in
                let same : item.Carry t ≡ item.Carry (fed_tuple r.2 r.1) = p.3 ∙ ap (λ (p : Put). p.item) r.4 in
                let e : t ≡ fed_tuple r.2 r.1 = cc in
                subst (λ (t : Tuple). AreShort t.fields) (sym e) (short r.1 (row_in r.0 r.1 r.3))
            | inr (inl e) ↦ absurd (cc)
            | inr (inr n) ↦ absurd n
          ]
        where
          row_in : (number : ℕ) (row : Row) → row_numbered rows number ≡ Some row → IsIn row rows
          row_in zero row e = absurd (cc)
          row_in (suc place) row e = in_of_place row rows place e

      sent_short : (s : ℕ) (lane : Lane) → HasWorker ran s → ((n : ℕ) (u : Tuple) → IsIn (entry.Met n u) (journal_of ran s) → AreShort u.fields)
          → IsIn (item.Carry t) (items_sent ran.setup (worker_no ran.setup s) (begun ran.setup s) lane (journal_of ran s)) → AreShort t.fields
      sent_short s lane ls met i =
          let who : Worker = worker_no ran.setup s in
          let ws : IsWorker ran.setup.job who = (worker_is ran.setup s ls).1 in
          let x = in_flat_map (put_then ran.setup who lane) (item.Carry t) (story ran.setup who (begun ran.setup s) (journal_of ran s))
          (subst (λ (xs : List Item). IsIn (item.Carry t) xs) (sent-story ran.setup who (begun ran.setup s) lane (journal_of ran s)) i) in
          let p = in_items lane (puts ran.setup who x.0.view x.0.entry) (item.Carry t) x.2 in
          let def : oversize who.func ≡ None = ap oversize ws.func_is ∙ at_of_all (λ (node : NodeDef). oversize node.func ≡ None) ws.def ran.setup.job.nodes limits.functions (in_of_place ws.def ran.setup.job.nodes who.node ws.node_is) in
          by_entry who x.0.view x.0.entry (short_func ran.setup who (begun ran.setup s) (journal_of ran s) x.0 requests def x.1) (λ n u e. met n u (subst (λ (y : Entry). IsIn y (journal_of ran s)) e (entry_in ran.setup who (begun ran.setup s) (journal_of ran s) x.0 x.1))) p.0 p.1 p.3
        where
          by_entry : (who : Worker) (view : StateView) (e : Entry) → oversize view.func ≡ None → ((n : ℕ) (u : Tuple) → e ≡ entry.Met n u → AreShort u.fields) → (p : Put) → IsIn p (puts ran.setup who view e) → item.Carry t ≡ p.item → AreShort t.fields
          by_entry who view (entry.Met n u) f met p i same =
              let o = in_map (put_out ran.setup.job who) p (outputs ran.setup.job (visit_at who view) view.func view.counts u) i in
              let both : item.Carry t ≡ item.Carry o.0.tuple = same ∙ ap (λ (p : Put). p.item) o.2 in
              let e : t ≡ o.0.tuple = cc in
              subst (λ (t : Tuple). AreShort t.fields) (sym e) (short_outputs ran.setup.job (visit_at who view) view.func view.counts u limits.texts f (met n u refl) o.0 o.1)
          by_entry who view (entry.Marked n r) f met p i same = absurd i
          by_entry who view (entry.Turned r) f met p i same =
              let c = puts_come ran.setup who view (entry.Turned r) p i in
              let both : item.Carry t ≡ item.Mark r c.0.nodes = same ∙ c.2 in
              absurd (cc)
          by_entry who view (entry.Ended n) f met p i same =
              let c = puts_come ran.setup who view (entry.Ended n) p i in
              let both : item.Carry t ≡ item.Last = same ∙ c in
              absurd (cc)

      by_sender : (k : LaneIn ran.setup.job (worker_no ran.setup w) l) → IsIn (item.Carry t) (shown ran.setup l (journal_of ran w))
          → ((v n : ℕ) (u : Tuple) → HasWorker ran v → (worker_no ran.setup v).node ≡ k.edge.from → IsIn (entry.Met n u) (journal_of ran v) → AreShort u.fields)
          → ((k.lane.sender ≡ None) × (is_source_node (slice_get ran.setup.job.nodes k.edge.from) ≡ true)) ⊎ ((s : ℕ) × (k.lane.sender ≡ Some s) × Stands ran.setup k.edge.from s) → AreShort t.fields
      by_sender k i earlier (inl f) = fed_short k.lane (subst (λ (xs : List Item). IsIn (item.Carry t) xs) (fed_there rows ran g l w lt k f.0) i)
      by_sender k i earlier (inr s) =
          sent_short s.0 k.lane s.2.within (λ n u j. earlier s.0 n u s.2.within s.2.node_is j)
          (subst (λ (xs : List Item). IsIn (item.Carry t) xs) (sent_there rows ran g l w s.0 lt s.2.within k s.1) i)

  -- every tuple that is met has short texts
  pub all_short : (w l : ℕ) (t : Tuple) → HasWorker ran w → IsIn (entry.Met l t) (journal_of ran w) → HasShortTexts t
  all_short w l t lt i = short_tuple t (short_below (suc (g.connected.rank (worker_no ran.setup w).node)) w l t lt (omega arith) i)
