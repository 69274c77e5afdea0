-- The law of one worker, second half: what it sends is steady.
use Rattle.std.proofs.Common.{◌≡◌, ◌∙◌, ◌<◌, ◌≤◌, ◌+◌, ◌==◌, ◌++◌, ℕ, List, [], ◌∷◌, inl, inr, refl, sym, subst, ap, true, false, Bool, cond, length, map, filter, flat_map, Some, None, Option}
use Rattle.std.proofs.lemmas.List.{map-append}
use Rattle.std.proofs.lemmas.Option.{cond_some}
use Rattle.flow_dag.specs.Edges.{HasEdge}
use Rattle.flow_dag.proofs.EdgeLemmas.{HasEdge-at}
use Rattle.cover_planner.specs.declared.cover.Plan.{Plan}
use Rattle.lane_core.specs.Steady.{Agrees}
use Rattle.operators.specs.Laws.{IsMadeOf}
use Rattle.operators.specs.Meaning.{step}
use Rattle.operators.specs.declared.output.Output.{Output}
use Rattle.operators.proofs.OutputLemmas.{outputs_made}
use Rattle.sink_journal.specs.declared.journal.Entry.{Entry}
use Rattle.sink_journal.specs.declared.journal.Entry.TheVariants as entry
use Rattle.tuple_trace.specs.declared.tuple.Item.{Item}
use Rattle.tuple_trace.specs.declared.tuple.Item.TheVariants as item
use Rattle.tuple_trace.specs.declared.tuple.Tuple.{Tuple}
use Rattle.tuple_trace.specs.declared.tuple.Visit.{Visit}
use Rattle.flow_model.specs.Covers.{covers_edge, plan_of}
use Rattle.flow_model.specs.Lanes.{is_same_lane, lanes_in, lanes_out}
use Rattle.flow_model.specs.Law.{IsExecution, initial}
use Rattle.flow_model.specs.declared.topology.Lane.{Lane}
use Rattle.flow_model.specs.SetupView.{SetupView, Worker}
use Rattle.flow_model.specs.Replay.{StateView, Put, came_in, item_on, items_on, marker, marker_by, put_on_each, put_out, puts, items_sent, visit_at}
use Rattle.flow_model.specs.Duties.{dues_after, duties}
use Rattle.flow_model.proofs.ElementLemmas.{Before, IsIn, before_first, before_second, flat_map_before, flat_map_in, in_cases, in_filter_map, in_flat_map, in_map, place_of_in}
use Rattle.flow_model.proofs.LaneLemmas.{LaneIn, lane_in, same_lane}
use Rattle.flow_model.proofs.MarkerLemmas.{met_on_lane}
use Rattle.flow_model.proofs.StoryLemmas.{IsRising, after_turned, before_turned, entry_before, entry_in, put_then, sent-story, story}
use Rattle.flow_model.proofs.AgreementLemmas.{BringSteadily, ComesAlong, HasAgreed, IsNew, IsOld, IsSteadyList, at_of_new, at_of_old, met_shown, nodes_of, way_further}
use Rattle.flow_model.proofs.WorkerLemmas.{IsWorker}

-- ---- from an item back to its put

-- a put that stands on a lane was put there
pub on_lane : (lane : Lane) (p : Put) (x : Item) → item_on lane p ≡ Some x → (p.lane ≡ Some lane) × (x ≡ p.item)
on_lane lane p x e = let r = cond_some (is_same_lane p.lane lane) p.item x e in (same_lane p.lane lane r.0, sym r.1)

pub in_items : (lane : Lane) (ps : List Put) (x : Item) → IsIn x (items_on lane ps) → (p : Put) × IsIn p ps × (p.lane ≡ Some lane) × (x ≡ p.item)
in_items lane ps x h = let r = in_filter_map (item_on lane) x ps h in let o = on_lane lane r.0 x r.2 in (r.0, r.1, o.0, o.1)

-- ---- what an entry sends

-- the outputs of a worker for a tuple
abbrev pub made : SetupView → Worker → StateView → Tuple → List Output
made setup who view tuple = (step setup.job (visit_at who view) view.func view.counts tuple).1

-- the item comes of the entry
abbrev pub ComesOf : SetupView → Worker → StateView → Entry → Item → Type 0
ComesOf setup who view (entry.Met l t) x = (u : Tuple) × (x ≡ item.Carry u) × (u.trace ≡ t.trace ++ visit_at who view ∷ []) × (u.row ≡ t.row)
ComesOf setup who view (entry.Marked l r) x = ⊥
ComesOf setup who view (entry.Turned r) x = (plan : Plan) × (plan_of setup r ≡ Some plan) × (x ≡ item.Mark r plan.nodes)
ComesOf setup who view (entry.Ended l) x = x ≡ item.Last

pub in_marker : (setup : SetupView) (r : ℕ) (x : Item) → IsIn x (marker setup r) → (plan : Plan) × (plan_of setup r ≡ Some plan) × (x ≡ item.Mark r plan.nodes)
in_marker setup r x h = go (plan_of setup r) refl h
  where
    go : (o : Option Plan) → plan_of setup r ≡ o → IsIn x (marker_by r o) → (plan : Plan) × (plan_of setup r ≡ Some plan) × (x ≡ item.Mark r plan.nodes)
    go None e h = absurd h
    go (Some plan) e (inl p) = (plan, e, p)
    go (Some plan) e (inr h) = absurd h

-- what is put at an entry comes of it
pub puts_come : (setup : SetupView) (who : Worker) (view : StateView) (e : Entry) (p : Put) → IsIn p (puts setup who view e) → ComesOf setup who view e p.item
puts_come setup who view (entry.Met l t) p h =
    let s = in_map (put_out setup.job who) p (made setup who view t) h in
    let k = place_of_in s.0 (made setup who view t) s.1 in
    let o : IsMadeOf setup.job.edges (visit_at who view) view.func t k.0 s.0 = outputs_made setup.job (visit_at who view) view.func view.counts t k.0 s.0 k.1 in
    (s.0.tuple, ap (λ (p : Put). p.item) s.2, o.trace, o.row)
puts_come setup who view (entry.Marked l r) p h = absurd h
puts_come setup who view (entry.Turned q) p h =
    let covered : List Lane = filter (λ (lane : Lane). covers_edge setup q lane.edge) (lanes_out setup.job who.number) in
    let s = in_flat_map (λ mark. put_on_each mark covered) p (marker setup q) h in
    let m = in_marker setup q s.0 s.1 in
    let t = in_map {B = Put} (λ (l : Lane). record { lane = Some l; item = s.0 }) p covered s.2 in
    (m.0, m.1, ap (λ (p : Put). p.item) t.2 ∙ m.2)
puts_come setup who view (entry.Ended l) p h = go (view.ended + 1 == length (lanes_in setup.job who.number)) h
  where
    go : (b : Bool) → IsIn p (cond b (put_on_each item.Last (lanes_out setup.job who.number)) []) → p.item ≡ item.Last
    go true h =
        let t = in_map {B = Put} (λ (l : Lane). record { lane = Some l; item = item.Last }) p (lanes_out setup.job who.number) h in
        ap (λ (p : Put). p.item) t.2
    go false h = absurd h

pub comes_of : (setup : SetupView) (who : Worker) (lane : Lane) (view : StateView) (e : Entry) (x : Item) → IsIn x (items_on lane (puts setup who view e)) → ComesOf setup who view e x
comes_of setup who lane view e x h =
    let r = in_items lane (puts setup who view e) x h in
    subst (ComesOf setup who view e) (sym r.3) (puts_come setup who view e r.0 r.1)

-- ---- agreement of what is sent

old_further : (setup : SetupView) (who : Worker) (r : ℕ) (view : StateView) (t u : Tuple) → IsOld setup r t → view.last < r → u.trace ≡ t.trace ++ visit_at who view ∷ [] → IsOld setup r u
old_further setup who r view t u o lt e v i c =
    elim (in_cases v t.trace (visit_at who view ∷ []) (subst (λ (l : List Visit). IsIn v l) e i)) [
      | inl a ↦ o v a c
      | inr (inl p) ↦ let k : v.last ≡ view.last = ap (λ (v : Visit). v.last) p in rw k lt
      | inr (inr n) ↦ absurd n
    ]

new_further : (setup : SetupView) (who : Worker) (r : ℕ) (view : StateView) (t u : Tuple) → IsNew setup r t → r ≤ view.last → u.trace ≡ t.trace ++ visit_at who view ∷ [] → IsNew setup r u
new_further setup who r view t u o le e v i c =
    elim (in_cases v t.trace (visit_at who view ∷ []) (subst (λ (l : List Visit). IsIn v l) e i)) [
      | inl a ↦ o v a c
      | inr (inl p) ↦ let k : v.last ≡ view.last = ap (λ (v : Visit). v.last) p in rw k le
      | inr (inr n) ↦ absurd n
    ]

-- items of one entry agree
together : (setup : SetupView) (who : Worker) (view : StateView) (e : Entry) (x y : Item) → ComesOf setup who view e x → ComesOf setup who view e y → Agrees x y
together setup who view (entry.Met l t) x y a b = rw (a.1, b.1) tt
together setup who view (entry.Marked l r) x y a b = absurd a
together setup who view (entry.Turned r) x y a b = rw (a.2, b.2) tt
together setup who view (entry.Ended l) x y a b = rw a tt

-- an item agrees with one of an earlier entry
apart : (setup : SetupView) (who : Worker) (journal : List Entry) → HasAgreed setup journal → (f g : StateView) (d e : Entry) (x y : Item)
    → Before d e journal → ((r : ℕ) → e ≡ entry.Turned r → f.last < r) → ((r : ℕ) → d ≡ entry.Turned r → r ≤ g.last)
    → ComesOf setup who f d x → ComesOf setup who g e y → Agrees x y
apart setup who journal a f g (entry.Met l t) (entry.Met k u) x y b p q c d = rw (c.1, d.1) tt
apart setup who journal a f g (entry.Met l t) (entry.Marked k r) x y b p q c d = absurd d
apart setup who journal a f g (entry.Met l t) (entry.Turned r) x y b p q c d =
    rw (c.1, d.2) (at_of_old setup r d.0 c.0 d.1 (old_further setup who r f t c.0 (a.old l t r b) (p r refl) c.2))
apart setup who journal a f g (entry.Met l t) (entry.Ended k) x y b p q c d = rw (c.1, d) tt
apart setup who journal a f g (entry.Marked l r) e x y b p q c d = absurd c
apart setup who journal a f g (entry.Turned r) (entry.Met k u) x y b p q c d =
    rw (c.2, d.1) (at_of_new setup r c.0 d.0 c.1 (new_further setup who r g u d.0 (a.new k u r b) (q r refl) d.2))
apart setup who journal a f g (entry.Turned r) (entry.Marked k s) x y b p q c d = absurd d
apart setup who journal a f g (entry.Turned r) (entry.Turned s) x y b p q c d = rw (c.2, d.2) tt
apart setup who journal a f g (entry.Turned r) (entry.Ended k) x y b p q c d = rw (c.2, d) tt
apart setup who journal a f g (entry.Ended l) (entry.Met k u) x y b p q c d = rw c tt
apart setup who journal a f g (entry.Ended l) (entry.Marked k s) x y b p q c d = absurd d
apart setup who journal a f g (entry.Ended l) (entry.Turned s) x y b p q c d = rw c tt
apart setup who journal a f g (entry.Ended l) (entry.Ended k) x y b p q c d = rw c tt

-- ---- the law

module _ (setup : SetupView) (turned : ℕ) (who : Worker) (is : IsWorker setup.job who) (view : StateView) (journal : List Entry)
    (law : IsExecution (duties setup turned who) (initial (duties setup turned who)) journal)
    (rises : IsRising view.last (dues_after setup turned who.node))
    (steady : BringSteadily setup who journal) (a : HasAgreed setup journal) (lane : Lane)
  where
    -- a tuple that is sent came one edge further
    on_the_way : (here : StateView) (e : Entry) (t : Tuple) → IsIn e journal → ComesOf setup who here e (item.Carry t) → ComesAlong (HasEdge setup.job.edges) who.node (nodes_of t)
    on_the_way here (entry.Met l u) t i c =
        let k : LaneIn setup.job who l = lane_in setup.job who l is (met_on_lane (duties setup turned who) (initial (duties setup turned who)) journal l u law i) in
        let way : ComesAlong (HasEdge setup.job.edges) k.edge.from (nodes_of u) = (steady l k).come u (flat_map_in (came_in setup l) (entry.Met l u) (item.Carry u) journal i (met_shown setup l u)) in
        let e : HasEdge setup.job.edges k.edge.from who.node = subst (λ v. HasEdge setup.job.edges k.edge.from v) k.to (HasEdge-at setup.job.edges k.lane.edge k.edge k.edge_is) in
        let same : t ≡ c.0 = let x = c.1 in cc in
        subst (λ (ns : List ℕ). ComesAlong (HasEdge setup.job.edges) who.node ns)
        (sym (ap nodes_of same ∙ (ap (λ (vs : List Visit). map (λ (v : Visit). v.node) vs) c.2 ∙ map-append (λ (v : Visit). v.node) u.trace (visit_at who here ∷ []))))
        (way_further (HasEdge setup.job.edges) k.edge.from who.node (nodes_of u) way e)
    on_the_way here (entry.Marked l r) t i c = absurd c
    on_the_way here (entry.Turned r) t i c = let x = c.2 in absurd (cc)
    on_the_way here (entry.Ended l) t i c = absurd (cc)

    come : (t : Tuple) → IsIn (item.Carry t) (flat_map (put_then setup who lane) (story setup who view journal)) → ComesAlong (HasEdge setup.job.edges) who.node (nodes_of t)
    come t h =
        let r = in_flat_map (put_then setup who lane) (item.Carry t) (story setup who view journal) h in
        on_the_way r.0.view r.0.entry t (entry_in setup who view journal r.0 r.1) (comes_of setup who lane r.0.view r.0.entry (item.Carry t) r.2)

    pair : (x y : Item) → Before x y (flat_map (put_then setup who lane) (story setup who view journal)) → Agrees x y
    pair x y h =
        elim (flat_map_before (put_then setup who lane) x y (story setup who view journal) h) [
          | inl r ↦ together setup who r.0.view r.0.entry x y
              (comes_of setup who lane r.0.view r.0.entry x (before_first x y (put_then setup who lane r.0) r.2))
              (comes_of setup who lane r.0.view r.0.entry y (before_second x y (put_then setup who lane r.0) r.2))
          | inr r ↦ apart setup who journal a r.0.view r.1.view r.0.entry r.1.entry x y
              (entry_before setup who view journal r.0 r.1 r.2)
              (λ q e. before_turned setup (duties setup turned who) who (initial (duties setup turned who)) view journal r.0 r.1 q law rises r.2 e)
              (λ q e. after_turned setup (duties setup turned who) who (initial (duties setup turned who)) view journal r.0 r.1 q law rises r.2 e)
              (comes_of setup who lane r.0.view r.0.entry x r.3)
              (comes_of setup who lane r.1.view r.1.entry y r.4)
        ]

    pub sends_steadily : IsSteadyList (HasEdge setup.job.edges) who.node (items_sent setup who view lane journal)
    sends_steadily = subst (IsSteadyList (HasEdge setup.job.edges) who.node) (sym (sent-story setup who view lane journal)) (record { come = come; agree = pair })
