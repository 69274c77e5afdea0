-- The law of one worker, first half: where what its lanes bring is steady, each tuple that it meets agrees with its turns.
use Rattle.std.proofs.Common.{◌≡◌, ◌<◌, ◌≤◌, ℕ, List, [], ◌∷◌, ◌++◌, inl, inr, refl, sym, subst, true, false, Bool, map, Some, None, Option, IfSome}
use Rattle.std.proofs.lemmas.Bool.{eq-eqb}
use Rattle.flow_dag.specs.Edges.{HasEdge}
use Rattle.flow_dag.specs.Masks.{Has, has}
use Rattle.flow_dag.specs.Paths.{IsOrReaches, IsWalk, last_of}
use Rattle.flow_dag.proofs.MaskLemmas.{has-Has}
use Rattle.cover_planner.specs.declared.cover.Plan.{Plan}
use Rattle.lane_core.specs.Steady.{Agrees, IsNewAt, IsOldAt}
use Rattle.sink_journal.specs.declared.journal.Entry.{Entry}
use Rattle.sink_journal.specs.declared.journal.Entry.TheVariants as entry
use Rattle.tuple_trace.specs.declared.tuple.Item.{Item}
use Rattle.tuple_trace.specs.declared.tuple.Item.TheVariants as item
use Rattle.tuple_trace.specs.declared.tuple.Tuple.{Tuple}
use Rattle.tuple_trace.specs.declared.tuple.Visit.{Visit}
use Rattle.flow_model.specs.Agreement.{AgreesWith, Agreement}
use Rattle.flow_model.specs.Covers.{covers, covers_edge, holds_node, plan_of}
use Rattle.flow_model.specs.Law.{IsExecution, initial}
use Rattle.flow_model.specs.SetupView.{SetupView, Worker}
use Rattle.flow_model.specs.Replay.{came_in, marker_by, shown}
use Rattle.flow_model.specs.Duties.{duties}
use Rattle.flow_model.proofs.ElementLemmas.{Before, IsIn, all_of_at, all_of_pairs, at_of_all, before_first, before_flat_map, before_second, flat_map_in, map_in}
use Rattle.flow_model.proofs.LaneLemmas.{LaneIn, lane_in, marked_lane}
use Rattle.flow_model.proofs.MarkerLemmas.{marked_before_met, met_before_marked, met_on_lane, turned_is_due}
use Rattle.flow_model.proofs.PlannedLemmas.{HasCovers, due_covers}
use Rattle.flow_model.proofs.WorkerLemmas.{IsWorker}

-- ---- the way of a tuple

abbrev pub nodes_of : Tuple → List ℕ
nodes_of t = map (λ (v : Visit). v.node) t.trace

-- these nodes are a path that ends at the node; where there are none, no edge leads into it
abbrev pub ComesAlong : (ℕ → ℕ → Type 0) → ℕ → List ℕ → Type 0
ComesAlong E node [] = (a : ℕ) → ¬ E a node
ComesAlong E node (first ∷ rest) = IsWalk E first rest × (last_of first rest ≡ node)

reach_of_walk : (E : ℕ → ℕ → Type 0) (u a node : ℕ) (more : List ℕ) → IsWalk E node more → last_of node more ≡ u → IsIn a (node ∷ more) → IsOrReaches E a u
reach_of_walk E u a node more p e (inl q) = subst (λ x. IsOrReaches E x u) (sym q) (more, p, e)
reach_of_walk E u a node [] p e (inr h) = absurd h
reach_of_walk E u a node (next ∷ more) p e (inr h) = reach_of_walk E u a next more p.1 e h

-- from each node on its way a tuple can come to where it is
pub reach_of_way : (E : ℕ → ℕ → Type 0) (u a : ℕ) (nodes : List ℕ) → ComesAlong E u nodes → IsIn a nodes → IsOrReaches E a u
reach_of_way E u a [] c h = absurd h
reach_of_way E u a (node ∷ more) c h = reach_of_walk E u a node more c.0 c.1 h

walk_push : (E : ℕ → ℕ → Type 0) (node v : ℕ) (more : List ℕ) → IsWalk E node more → E (last_of node more) v → IsWalk E node (more ++ v ∷ [])
walk_push E node v [] p e = (e, tt)
walk_push E node v (next ∷ more) p e = (p.0, walk_push E next v more p.1 e)

last_push : (node v : ℕ) (more : List ℕ) → last_of node (more ++ v ∷ []) ≡ v
last_push node v [] = refl
last_push node v (next ∷ more) = last_push next v more

-- one edge further
pub way_further : (E : ℕ → ℕ → Type 0) (u v : ℕ) (nodes : List ℕ) → ComesAlong E u nodes → E u v → ComesAlong E v (nodes ++ v ∷ [])
way_further E u v [] c e = (tt, refl)
way_further E u v (node ∷ more) c e = (walk_push E node v more c.0 (subst (λ x. E x v) (sym c.1) e), last_push node v more)

-- ---- old and new tuples

-- the tuple came to each covered node before the request turned there, or after it
abbrev pub IsOld : SetupView → ℕ → Tuple → Type 0
IsOld setup r t = (v : Visit) → IsIn v t.trace → covers setup r v.node ≡ true → v.last < r

abbrev pub IsNew : SetupView → ℕ → Tuple → Type 0
IsNew setup r t = (v : Visit) → IsIn v t.trace → covers setup r v.node ≡ true → r ≤ v.last

covers_has : (setup : SetupView) (r node : ℕ) (plan : Plan) → plan_of setup r ≡ Some plan → covers setup r node ≡ true → Has plan.nodes node
covers_has setup r node plan e h = let k : has plan.nodes node ≡ true = rw e at h in (has-Has plan.nodes node).0 k

pub has_covers_node : (setup : SetupView) (r node : ℕ) (plan : Plan) → plan_of setup r ≡ Some plan → Has plan.nodes node → covers setup r node ≡ true
has_covers_node setup r node plan e h = rw e ((has-Has plan.nodes node).1 h)

pub old_of_at : (setup : SetupView) (r : ℕ) (plan : Plan) (t : Tuple) → plan_of setup r ≡ Some plan → IsOldAt r plan.nodes t → IsOld setup r t
old_of_at setup r plan t e o v i c = at_of_all (λ (v : Visit). Has plan.nodes v.node → v.last < r) v t.trace o i (covers_has setup r v.node plan e c)

pub new_of_at : (setup : SetupView) (r : ℕ) (plan : Plan) (t : Tuple) → plan_of setup r ≡ Some plan → IsNewAt r plan.nodes t → IsNew setup r t
new_of_at setup r plan t e o v i c = at_of_all (λ (v : Visit). Has plan.nodes v.node → r ≤ v.last) v t.trace o i (covers_has setup r v.node plan e c)

pub at_of_old : (setup : SetupView) (r : ℕ) (plan : Plan) (t : Tuple) → plan_of setup r ≡ Some plan → IsOld setup r t → IsOldAt r plan.nodes t
at_of_old setup r plan t e o = all_of_at (λ (v : Visit). Has plan.nodes v.node → v.last < r) t.trace (λ v i h. o v i (has_covers_node setup r v.node plan e h))

pub at_of_new : (setup : SetupView) (r : ℕ) (plan : Plan) (t : Tuple) → plan_of setup r ≡ Some plan → IsNew setup r t → IsNewAt r plan.nodes t
at_of_new setup r plan t e o = all_of_at (λ (v : Visit). Has plan.nodes v.node → r ≤ v.last) t.trace (λ v i h. o v i (has_covers_node setup r v.node plan e h))

pub some_plan : (setup : SetupView) (r node : ℕ) → covers setup r node ≡ true → (plan : Plan) × (plan_of setup r ≡ Some plan)
some_plan setup r node h = go (plan_of setup r) h
  where
    go : (o : Option Plan) → holds_node o node ≡ true → (plan : Plan) × (o ≡ Some plan)
    go None h = absurd (cc)
    go (Some plan) h = (plan, refl)

-- ---- steady lists, pair by pair

-- each tuple of the list came along the edges to the node, and each item agrees with those behind it
pub record IsSteadyList (E : ℕ → ℕ → Type 0) (from : ℕ) (items : List Item) : Type 0 where
  pub come : (t : Tuple) → IsIn (item.Carry t) items → ComesAlong E from (nodes_of t)
  pub agree : (x y : Item) → Before x y items → Agrees x y

-- what each lane into a worker has delivered is steady
abbrev pub BringSteadily : SetupView → Worker → List Entry → Type 0
BringSteadily setup who journal = (n : ℕ) (k : LaneIn setup.job who n) → IsSteadyList (HasEdge setup.job.edges) k.edge.from (shown setup n journal)

pub met_shown : (setup : SetupView) (n : ℕ) (t : Tuple) → IsIn (item.Carry t) (came_in setup n (entry.Met n t))
met_shown setup n t = rw (eq-eqb n n refl) (inl refl)

marker_shown : (setup : SetupView) (n r : ℕ) (plan : Plan) → plan_of setup r ≡ Some plan → IsIn (item.Mark r plan.nodes) (came_in setup n (entry.Marked n r))
marker_shown setup n r plan e = rw (eq-eqb n n refl) (subst (λ o. IsIn (item.Mark r plan.nodes) (marker_by r o)) (sym e) (inl refl))

-- ---- agreement

-- a tuple met before a turn is old there, and one met after it is new
pub record HasAgreed (setup : SetupView) (journal : List Entry) : Type 0 where
  pub old : (l : ℕ) (t : Tuple) (r : ℕ) → Before (entry.Met l t) (entry.Turned r) journal → IsOld setup r t
  pub new : (l : ℕ) (t : Tuple) (r : ℕ) → Before (entry.Turned r) (entry.Met l t) journal → IsNew setup r t

module _ (setup : SetupView) (kept : HasCovers setup) (turned : ℕ) (who : Worker) (is : IsWorker setup.job who) (journal : List Entry)
    (law : IsExecution (duties setup turned who) (initial (duties setup turned who)) journal)
    (steady : BringSteadily setup who journal)
  where
    lane : (l : ℕ) (t : Tuple) → IsIn (entry.Met l t) journal → LaneIn setup.job who l
    lane l t i = lane_in setup.job who l is (met_on_lane (duties setup turned who) (initial (duties setup turned who)) journal l t law i)

    covered_here : (r : ℕ) → IsIn (entry.Turned r) journal → covers setup r who.node ≡ true
    covered_here r i = due_covers setup turned who.node r (turned_is_due (duties setup turned who) (initial (duties setup turned who)) journal r law i)

    way : (l : ℕ) (t : Tuple) (k : LaneIn setup.job who l) → IsIn (entry.Met l t) journal → ComesAlong (HasEdge setup.job.edges) k.edge.from (nodes_of t)
    way l t k i = (steady l k).come t (flat_map_in (came_in setup l) (entry.Met l t) (item.Carry t) journal i (met_shown setup l t))

    -- a tuple that comes to a covered node by an edge that isn't covered was at no covered node
    never_covered : (r l : ℕ) (t : Tuple) (k : LaneIn setup.job who l) (v : Visit) → IsIn (entry.Met l t) journal → covers setup r who.node ≡ true
        → covers_edge setup r k.lane.edge ≡ false → IsIn v t.trace → ¬ (covers setup r v.node ≡ true)
    never_covered r l t k v i c out h d =
        let e : covers_edge setup r k.lane.edge ≡ true = kept.edges r v.node k.lane.edge k.edge k.edge_is d
        (reach_of_way (HasEdge setup.job.edges) k.edge.from v.node (nodes_of t) (way l t k i) (map_in (λ (v : Visit). v.node) v t.trace h)) (rw k.to c) in
        absurd (cc)

    old : (l : ℕ) (t : Tuple) (r : ℕ) → Before (entry.Met l t) (entry.Turned r) journal → IsOld setup r t
    old l t r b =
        let i : IsIn (entry.Met l t) journal = before_first (entry.Met l t) (entry.Turned r) journal b in
        let c : covers setup r who.node ≡ true = covered_here r (before_second (entry.Met l t) (entry.Turned r) journal b) in
        go (lane l t i) i c (covers_edge setup r (lane l t i).lane.edge) refl
      where
        go : (k : LaneIn setup.job who l) → IsIn (entry.Met l t) journal → covers setup r who.node ≡ true → (d : Bool) → covers_edge setup r k.lane.edge ≡ d → IsOld setup r t
        go k i c true e =
            let (plan, p) = some_plan setup r who.node c in
            old_of_at setup r plan t p ((steady l k).agree (item.Carry t) (item.Mark r plan.nodes)
            (before_flat_map (came_in setup l) (entry.Met l t) (entry.Marked l r) (item.Carry t) (item.Mark r plan.nodes) journal
            (met_before_marked (duties setup turned who) (initial (duties setup turned who)) journal l t r l law (marked_lane setup who l r k e) b)
            (met_shown setup l t) (marker_shown setup l r plan p)))
        go k i c false e = λ v h d. absurd (never_covered r l t k v i c e h d)

    new : (l : ℕ) (t : Tuple) (r : ℕ) → Before (entry.Turned r) (entry.Met l t) journal → IsNew setup r t
    new l t r b =
        let i : IsIn (entry.Met l t) journal = before_second (entry.Turned r) (entry.Met l t) journal b in
        let c : covers setup r who.node ≡ true = covered_here r (before_first (entry.Turned r) (entry.Met l t) journal b) in
        go (lane l t i) i c (covers_edge setup r (lane l t i).lane.edge) refl
      where
        go : (k : LaneIn setup.job who l) → IsIn (entry.Met l t) journal → covers setup r who.node ≡ true → (d : Bool) → covers_edge setup r k.lane.edge ≡ d → IsNew setup r t
        go k i c true e =
            let (plan, p) = some_plan setup r who.node c in
            elim (marked_before_met (duties setup turned who) (initial (duties setup turned who)) journal l t r l law (marked_lane setup who l r k e) b) [
              | inl m ↦ new_of_at setup r plan t p ((steady l k).agree (item.Mark r plan.nodes) (item.Carry t)
                  (before_flat_map (came_in setup l) (entry.Marked l r) (entry.Met l t) (item.Mark r plan.nodes) (item.Carry t) journal m (marker_shown setup l r plan p) (met_shown setup l t)))
              | inr m ↦ absurd m.0
            ]
        go k i c false e = λ v h d. absurd (never_covered r l t k v i c e h d)

    pub agreed : HasAgreed setup journal
    agreed = record { old = old; new = new }

-- ---- agreement as it is defined

pub agreement_of : (setup : SetupView) (journal : List Entry) → HasAgreed setup journal → Agreement setup journal
agreement_of setup journal a = all_of_pairs (AgreesWith setup) journal pair
  where
    old_then : (l : ℕ) (t : Tuple) (r : ℕ) → IsOld setup r t → IfSome (plan_of setup r) (λ (plan : Plan). IsOldAt r plan.nodes t)
    old_then l t r o = go (plan_of setup r) refl
      where
        go : (p : Option Plan) → plan_of setup r ≡ p → IfSome p (λ (plan : Plan). IsOldAt r plan.nodes t)
        go None e = tt
        go (Some plan) e = at_of_old setup r plan t e o

    new_then : (l : ℕ) (t : Tuple) (r : ℕ) → IsNew setup r t → IfSome (plan_of setup r) (λ (plan : Plan). IsNewAt r plan.nodes t)
    new_then l t r o = go (plan_of setup r) refl
      where
        go : (p : Option Plan) → plan_of setup r ≡ p → IfSome p (λ (plan : Plan). IsNewAt r plan.nodes t)
        go None e = tt
        go (Some plan) e = at_of_new setup r plan t e o

    pair : (x y : Entry) → Before x y journal → AgreesWith setup x y
    pair (entry.Met l t) (entry.Turned r) b = old_then l t r (a.old l t r b)
    pair (entry.Turned r) (entry.Met l t) b = new_then l t r (a.new l t r b)
    pair (entry.Met l t) (entry.Met k u) b = tt
    pair (entry.Met l t) (entry.Marked k q) b = tt
    pair (entry.Met l t) (entry.Ended k) b = tt
    pair (entry.Turned r) (entry.Turned q) b = tt
    pair (entry.Turned r) (entry.Marked k q) b = tt
    pair (entry.Turned r) (entry.Ended k) b = tt
    pair (entry.Marked l r) y b = tt
    pair (entry.Ended l) y b = tt
