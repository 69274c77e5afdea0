-- The rows and births of the tuples of a run are in the ranges of their types.
use Rattle.std.proofs.Common.{◌≡◌, ◌∙◌, ◌≤◌, ℕ, zero, suc, List, [], inl, inr, refl, sym, ap, subst, arith, length, true, false, Bool, cond, ◌==◌, ◌&&◌, nat_le, None, Option, Some, slice_get}
use Rattle.jobs.specs.Law.{IsLawful}
use Rattle.jobs.specs.Kinds.{row_at}
use Rattle.jobs.specs.Nodes.{fan_out, is_free, most_roof}
use Rattle.jobs.specs.Ports.{are_ports, out_count}
use Rattle.jobs.specs.declared.func.Func.{Func}
use Rattle.jobs.specs.declared.func.NodeDef.{NodeDef}
use Rattle.jobs.proofs.RoofLemmas.{roof_of_node}
use Rattle.operators.specs.Laws.{IsMadeOf}
use Rattle.operators.specs.Meaning.{step}
use Rattle.operators.proofs.OutputLemmas.{outputs_made}
use Rattle.sink_journal.specs.declared.journal.Entry.{Entry}
use Rattle.sink_journal.specs.declared.journal.Entry.TheVariants as entry
use Rattle.tuple_trace.specs.Rows.{AreRows, IsRow}
use Rattle.tuple_trace.specs.declared.row.Row.{Row}
use Rattle.tuple_trace.specs.declared.tuple.Item.{Item}
use Rattle.tuple_trace.specs.declared.tuple.Item.TheVariants as item
use Rattle.tuple_trace.specs.declared.tuple.Tuple.{Tuple}
use Rattle.versions.specs.Kept.{KeepKinds}
use Rattle.versions.specs.declared.request.Change.{Change}
use Rattle.flow_model.specs.declared.topology.Lane.{Lane}
use Rattle.flow_model.specs.Begin.{Begin, view_at}
use Rattle.flow_model.specs.Feeding.{fed, fed_puts, fed_tuple}
use Rattle.flow_model.specs.SetupView.{SetupView, Worker}
use Rattle.flow_model.specs.Replay.{StateView, Put, put_out, puts, visit_at}
use Rattle.flow_model.specs.Requests.{change_by, func_after, func_with}
use Rattle.flow_model.specs.Workers.{workers_in}
use Rattle.flow_model.proofs.ElementLemmas.{IsIn, all_of_at, in_flat_map, in_map, place_of_in}
use Rattle.flow_model.proofs.JobLemmas.{IsConnected}
use Rattle.flow_model.proofs.KindLemmas.{AreAlike, IsGiven, alike_given, given_roof, given_then}
use Rattle.flow_model.proofs.RunLemmas.{in_fed_puts, row_is, row_numbered-within}
use Rattle.flow_model.proofs.SendingLemmas.{in_items, puts_come}
use Rattle.flow_model.proofs.StoryLemmas.{entry_in, put_then, sent-story, story}
use Rattle.flow_model.proofs.WorkerLemmas.{IsWorker, worker_with}
use Rattle.audit_laws.specs.Delivered.{feed_of}
use Rattle.audit_laws.proofs.EachTupleLemmas.{HasEach, SendsEach, each_tuple}
use Rattle.audit_laws.proofs.SmallLemmas.{AreNarrow, births_narrow}
use Rattle.audit_laws.proofs.ConservedLemmas.{IsConservedAt}

-- the tuple is of one of so many rows, and its births are in range
abbrev pub IsNarrow : ℕ → Tuple → Type 0
IsNarrow rows t = (t.row ≤ rows) × AreNarrow t.birth

-- ---- what the feeder puts

narrow_fed : (begin : Begin) (setup : SetupView) (rows : List Row) → AreRows rows → (lane : Lane) (t : Tuple) → IsIn (item.Carry t) (fed setup.job rows begin.turned lane (feed_of begin setup rows)) → IsNarrow (length rows) t
narrow_fed begin setup rows are lane t i =
    let p = in_items lane (fed_puts setup.job rows begin.turned (feed_of begin setup rows)) (item.Carry t) i in
    let r = in_fed_puts setup.job rows begin.turned (feed_of begin setup rows) p.0 p.1 in
    let c : item.Carry t ≡ item.Carry (fed_tuple r.2 r.1) = p.3 ∙ ap (λ (p : Put). p.item) r.4 in
    let same : t ≡ fed_tuple r.2 r.1 = cc in
    let is : IsRow r.0 r.1 = row_is rows r.0 r.1 are r.3 in
    let number : t.row ≡ r.0 = ap (λ (t : Tuple). t.row) same ∙ is.numbered in
    let born : t.birth ≡ [] = ap (λ (t : Tuple). t.birth) same ∙ is.unborn in
    let le = row_numbered-within rows r.0 r.1 r.3 in
    (omega arith, subst AreNarrow (sym born) (all_of_at (λ birth. _) [] (λ x j. absurd j)))

-- ---- what a worker sends

few_pieces : (f : Func) (outs : ℕ) → most_roof f outs ≤ 16
few_pieces f outs = go (is_free f) (nat_le 2 (row_at f).most_outs && outs == 2)
  where
    go : (a b : Bool) → cond a (cond b 1 16) 1 ≤ 16
    go true true = omega arith
    go true false = omega arith
    go false b = omega arith

-- what a node may be given makes few pieces, and has the node's ports
record Fits (setup : SetupView) (node : ℕ) (f : Func) : Type 0 where
  pieces : fan_out f ≤ 16
  ports : are_ports setup.job.edges node f ≡ true

narrow_put : (rows : ℕ) (setup : SetupView) (who : Worker) (view : StateView) (x : Entry) (p : Put) (t : Tuple) → Fits setup who.node view.func
    → ((l : ℕ) (u : Tuple) → entry.Met l u ≡ x → IsNarrow rows u) → IsIn p (puts setup who view x) → p.item ≡ item.Carry t → IsNarrow rows t
narrow_put rows setup who view (entry.Met l u) p t fits h i e =
    let s = in_map (put_out setup.job who) p (step setup.job (visit_at who view) view.func view.counts u).1 i in
    let k = place_of_in s.0 (step setup.job (visit_at who view) view.func view.counts u).1 s.1 in
    let o : IsMadeOf setup.job.edges (visit_at who view) view.func u k.0 s.0 = outputs_made setup.job (visit_at who view) view.func view.counts u k.0 s.0 k.1 in
    let c : item.Carry s.0.tuple ≡ item.Carry t = sym (ap (λ (p : Put). p.item) s.2) ∙ e in
    let same : s.0.tuple ≡ t = cc in
    let met : IsNarrow rows u = h l u refl in
    let row : t.row ≡ u.row = sym (ap (λ (t : Tuple). t.row) same) ∙ o.row in
    let le = met.0 in (
      omega arith,
      subst AreNarrow (sym o.birth ∙ ap (λ (t : Tuple). t.birth) same)
          (births_narrow setup.job.edges who.node view.func u.birth k.0 s.0.port fits.pieces fits.ports o.port met.1),
    )
narrow_put rows setup who view (entry.Marked l r) p t fits h i e = absurd i
narrow_put rows setup who view (entry.Turned r) p t fits h i e = let m = (puts_come setup who view (entry.Turned r) p i).2 in absurd (cc)
narrow_put rows setup who view (entry.Ended l) p t fits h i e = let m = puts_come setup who view (entry.Ended l) p i in absurd (cc)

-- what is in force at a node that has turned the first requests, it was given
given_turned : (setup : SetupView) (node : ℕ) (first : Func) (turned : ℕ) → IsGiven setup node first (func_after setup node first turned)
given_turned setup node first zero = inl refl
given_turned setup node first (suc r) = go (change_by setup (suc r) node) refl (given_turned setup node first r)
  where
    go : (o : Option Change) → change_by setup (suc r) node ≡ o → IsGiven setup node first (func_after setup node first r)
        → IsGiven setup node first (func_with o (func_after setup node first r))
    go None e a = a
    go (Some change) e a = inr (suc r, change, e, refl)

module _ (begin : Begin) (setup : SetupView) (law : IsLawful setup.job) (connected : IsConnected setup.job) (kinds : KeepKinds setup.job setup.requests) where
  fits_given : (node : ℕ) (def : NodeDef) (f : Func) → slice_get setup.job.nodes node ≡ Some def → IsGiven setup node def.func f → Fits setup node f
  fits_given node def f there given =
      let roof = given_roof setup node def f law kinds there given in
      let most = (roof_of_node setup.job node def law there).1 in
      let few = few_pieces def.func (out_count setup.job.edges node) in
      let alike : AreAlike setup.job.edges node def.func f = alike_given setup node def f kinds there given in
      record { pieces = omega arith; ports = alike.ports (connected.ports node def there) }

  narrow_sent : (rows : ℕ) (w : ℕ) (who : Worker) (journal : List Entry) → slice_get (workers_in setup.job) w ≡ Some who → SendsEach begin setup (IsNarrow rows) who journal
  narrow_sent rows w who journal p h counts lane t i =
      let view : StateView = view_at setup begin.turned who counts in
      let is : IsWorker setup.job who = (worker_with setup.job w who p).1 in
      let j : IsIn (item.Carry t) _ = subst (λ (l : List Item). IsIn (item.Carry t) l) (sent-story setup who view lane journal) i in
      let m = in_flat_map (put_then setup who lane) (item.Carry t) (story setup who view journal) j in
      let k = place_of_in m.0 (story setup who view journal) m.1 in
      let given : IsGiven setup who.node who.func m.0.view.func = given_then setup who who.func view journal k.0 m.0 (given_turned setup who.node who.func begin.turned) k.1 in
      let q = in_items lane (puts setup who m.0.view m.0.entry) (item.Carry t) m.2 in
      narrow_put rows setup who m.0.view m.0.entry q.0 t
      (fits_given who.node is.def m.0.view.func is.node_is (subst (λ (f : Func). IsGiven setup who.node f m.0.view.func) is.func_is given))
      (λ l u e. h l u (subst (λ (x : Entry). IsIn x journal) (sym e) (entry_in setup who view journal m.0 m.1))) q.1 (sym q.3)

  -- in journals that are tied to their senders every tuple is of one of the rows, and its births are in range
  pub each_narrow : (rows : List Row) → AreRows rows → (journals : List (List Entry))
      → ((w : ℕ) (who : Worker) → slice_get (workers_in setup.job) w ≡ Some who → IsConservedAt begin setup rows journals w)
      → (w : ℕ) (who : Worker) (journal : List Entry) → slice_get (workers_in setup.job) w ≡ Some who → slice_get journals w ≡ Some journal → HasEach (IsNarrow (length rows)) journal
  each_narrow rows are journals conserved =
      each_tuple begin setup connected rows journals conserved (IsNarrow (length rows)) (narrow_fed begin setup rows are) (λ w who journal p j. narrow_sent (length rows) w who journal p)
