-- The law of one worker, as it is defined.
use Rattle.std.proofs.Common.{◌≡◌, subst, Some, slice_get, ◌≤◌, ◌↔◌, ℕ, zero, suc, List, [], ◌∷◌, arith, true, false, Bool, cond}
use Rattle.std.proofs.lemmas.Option.{slice_get_within}
use Rattle.flow_dag.specs.Edges.{HasEdge}
use Rattle.flow_dag.specs.Graph.{IsEdge}
use Rattle.flow_dag.specs.Paths.{IsWalk}
use Rattle.flow_dag.specs.declared.edge.Edge.{Edge}
use Rattle.flow_dag.specs.declared.graph.Graph.{Graph}
use Rattle.keyed_state.specs.Counts.{Counts}
use Rattle.lane_core.specs.Steady.{Agrees, ComesTo, HasComeTo, IsSteady}
use Rattle.lane_core.specs.declared.form.Origin.{Origin}
use Rattle.sink_journal.specs.declared.journal.Entry.{Entry}
use Rattle.tuple_trace.specs.declared.row.Row.{Row}
use Rattle.tuple_trace.specs.declared.tuple.Item.{Item}
use Rattle.tuple_trace.specs.declared.tuple.Item.TheVariants as item
use Rattle.flow_model.specs.Agreement.{Agreement, IsGraphOf, SendsSteadily, WorksSteadily}
use Rattle.flow_model.specs.Begin.{Begin, at_first, last_after, view_at}
use Rattle.flow_model.specs.Covers.{covers}
use Rattle.flow_model.specs.declared.topology.Lane.{Lane}
use Rattle.flow_model.specs.SetupView.{SetupView, Worker}
use Rattle.flow_model.specs.Replay.{items_sent, shown}
use Rattle.flow_model.specs.Run.{IsLawfulFrom, Ran}
use Rattle.flow_model.specs.Workers.{workers_in}
use Rattle.flow_model.proofs.ElementLemmas.{IsIn, all_of_at, all_of_pairs, at_of_all, pair_of_all}
use Rattle.flow_model.proofs.LaneLemmas.{LaneIn, lane_into}
use Rattle.flow_model.proofs.PlannedLemmas.{HasCovers, dues_rise}
use Rattle.flow_model.proofs.AgreementLemmas.{BringSteadily, ComesAlong, HasAgreed, IsSteadyList, agreed, agreement_of, nodes_of}
use Rattle.flow_model.proofs.SendingLemmas.{sends_steadily}
use Rattle.flow_model.proofs.WorkerLemmas.{IsWorker, journal_is, journal_of, who_is, worker_no, worker_with}
use Rattle.flow_model.proofs.RunLemmas.{HasWorker, Running, all_steady, finished}

-- ---- steady lists

walk_by : (E F : ℕ → ℕ → Type 0) → ((a b : ℕ) → E a b → F a b) → (a : ℕ) (rest : List ℕ) → IsWalk E a rest → IsWalk F a rest
walk_by E F f a [] w = tt
walk_by E F f a (b ∷ rest) w = (f a b w.0, walk_by E F f b rest w.1)

comes_along : (graph : Graph) (E : ℕ → ℕ → Type 0) (from : ℕ) (nodes : List ℕ) → ((a b : ℕ) → IsEdge graph a b ↔ E a b) → ComesTo graph from nodes → ComesAlong E from nodes
comes_along graph E from [] same c = λ a e. c a ((same a from).1 e)
comes_along graph E from (first ∷ rest) same c = (walk_by (IsEdge graph) E (λ a b. (same a b).0) first rest c.0, c.1)

comes_to : (graph : Graph) (E : ℕ → ℕ → Type 0) (from : ℕ) (nodes : List ℕ) → ((a b : ℕ) → IsEdge graph a b ↔ E a b) → ComesAlong E from nodes → ComesTo graph from nodes
comes_to graph E from [] same c = λ a e. c a ((same a from).0 e)
comes_to graph E from (first ∷ rest) same c = (walk_by E (IsEdge graph) (λ a b. (same a b).1) first rest c.0, c.1)

pub steady_list : (origin : Origin) (E : ℕ → ℕ → Type 0) (items : List Item) → ((a b : ℕ) → IsEdge origin.graph a b ↔ E a b) → IsSteady origin items → IsSteadyList E origin.from items
steady_list origin E items same s = record {
  come = λ t i. comes_along origin.graph E origin.from (nodes_of t) same (at_of_all (HasComeTo origin) (item.Carry t) items s.come i);
  agree = λ x y b. pair_of_all Agrees x y items s.agree b;
}

pub list_steady : (origin : Origin) (E : ℕ → ℕ → Type 0) (items : List Item) → ((a b : ℕ) → IsEdge origin.graph a b ↔ E a b) → IsSteadyList E origin.from items → IsSteady origin items
list_steady origin E items same s = record { come = all_of_at (HasComeTo origin) items has_come; agree = all_of_pairs Agrees items s.agree }
  where
    has_come : (x : Item) → IsIn x items → HasComeTo origin x
    has_come (item.Carry t) i = comes_to origin.graph E origin.from (nodes_of t) same (s.come t i)
    has_come (item.Mark r cover) i = tt
    has_come item.Last i = tt

-- ---- what a worker has turned before

pub last_within : (setup : SetupView) (node turned : ℕ) → last_after setup node turned ≤ turned
last_within setup node zero = omega arith
last_within setup node (suc r) = go (covers setup (suc r) node) (last_within setup node r)
  where
    go : (b : Bool) → last_after setup node r ≤ r → cond b (suc r) (last_after setup node r) ≤ suc r
    go true le = omega arith
    go false le = omega arith

-- ---- the law

module _ (setup : SetupView) (kept : HasCovers setup) (graph : Graph) (same : IsGraphOf setup.job graph) (begin : Begin) (who : Worker) (journal : List Entry)
    (works : WorksSteadily setup graph begin who journal)
  where
    is : IsWorker setup.job who
    is = (worker_with setup.job who.number who works.works).1

    delivered : BringSteadily setup who journal
    delivered n k =
        steady_list (record { graph = graph; from = k.edge.from }) (HasEdge setup.job.edges) (shown setup n journal) same (works.steady n k.lane k.edge k.numbered k.receiver k.edge_is)

    has_agreed : HasAgreed setup journal
    has_agreed = agreed setup kept begin.turned who is journal works.lawful.execution delivered

    pub worker_agrees : Agreement setup journal
    worker_agrees = agreement_of setup journal has_agreed

    pub worker_sends : (counts : Counts) → SendsSteadily setup graph begin who counts journal
    worker_sends counts lane =
        list_steady (record { graph = graph; from = who.node }) (HasEdge setup.job.edges) (items_sent setup who (view_at setup begin.turned who counts) lane journal) same
        (sends_steadily setup begin.turned who is (view_at setup begin.turned who counts) journal works.lawful.execution
        (dues_rise setup begin.turned who.node (last_after setup who.node begin.turned) (last_within setup who.node begin.turned)) delivered has_agreed lane)

-- ---- in a run

-- in a run every worker's journal is lawful, and its lanes have delivered steady lists
pub run_works : (rows : List Row) (ran : Ran) (g : Running rows ran) (graph : Graph) → IsGraphOf ran.setup.job graph → (w : ℕ) (who : Worker) (journal : List Entry)
    → slice_get (workers_in ran.setup.job) w ≡ Some who → slice_get ran.journals w ≡ Some journal → WorksSteadily ran.setup graph (at_first ran.setup) who journal
run_works rows ran g graph same w who journal p j =
    let lt : HasWorker ran w = slice_get_within (workers_in ran.setup.job) w who p in
    let at : worker_no ran.setup w ≡ who = who_is ran.setup w who p in
    let there : journal_of ran w ≡ journal = journal_is ran w journal j in
    let is : IsWorker ran.setup.job who = (worker_with ran.setup.job w who p).1 in
    let delivered : BringSteadily ran.setup who journal =
    subst (λ (x : Worker). BringSteadily ran.setup x journal) at (subst (λ (x : List Entry). BringSteadily ran.setup (worker_no ran.setup w) x) there (all_steady rows ran g w lt)) in
    record {
      works = is.there;
      lawful = subst (λ (x : Worker). IsLawfulFrom ran.setup (at_first ran.setup) x journal) at
          (subst (λ (x : List Entry). IsLawfulFrom ran.setup (at_first ran.setup) (worker_no ran.setup w) x) there (finished rows ran g w lt).lawful);
      steady = λ n lane edge g r e.
          let k : LaneIn ran.setup.job who n = lane_into ran.setup.job who n lane is g r in
          let x = k.numbered in
          let lane_is : k.lane ≡ lane = cc in
          let y : slice_get ran.setup.job.edges lane.edge ≡ Some k.edge = subst (λ (l : Lane). slice_get ran.setup.job.edges l.edge ≡ Some k.edge) lane_is k.edge_is in
          let edge_is : k.edge ≡ edge = cc in
          subst (λ (v : Edge). IsSteady (record { graph = graph; from = v.from }) (shown ran.setup n journal)) edge_is
          (list_steady (record { graph = graph; from = k.edge.from }) (HasEdge ran.setup.job.edges) (shown ran.setup n journal) same (delivered n k));
    }
