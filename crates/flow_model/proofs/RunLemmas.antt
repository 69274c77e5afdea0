-- In a run what each lane brings is what was put on it, every lane is steady, and each worker's tuples agree with its turns.
use Rattle.std.proofs.Common.{◌≡◌, ◌∙◌, ◌<◌, ◌≤◌, ◌+◌, ◌++◌, ℕ, zero, suc, List, [], ◌∷◌, ◌⊎◌, inl, inr, refl, sym, subst, ap, arith, true, false, Bool, cond, length, map, option_map, Some, None, Option, slice_get, All}
use Rattle.std.specs.FinMap.{empty}
use Rattle.std.proofs.lemmas.Option.{slice_get-get_or, slice_get-map, slice_get_within}
use Rattle.flow_dag.specs.Edges.{HasEdge}
use Rattle.jobs.specs.Nodes.{is_source_node}
use Rattle.jobs.specs.JobView.{JobView}
use Rattle.lane_core.specs.Steady.{Agrees}
use Rattle.sink_journal.specs.declared.journal.Feed.{Feed}
use Rattle.sink_journal.specs.declared.journal.Feed.TheVariants as feed
use Rattle.tuple_trace.specs.Rows.{AreRows, IsRow}
use Rattle.tuple_trace.specs.declared.row.Row.{Row}
use Rattle.tuple_trace.specs.declared.tuple.Item.{Item}
use Rattle.tuple_trace.specs.declared.tuple.Item.TheVariants as item
use Rattle.tuple_trace.specs.declared.tuple.Visit.{Visit}
use Rattle.versions.specs.Kept.{AreInOrder, KeepKinds}
use Rattle.flow_model.specs.Agreement.{Agreement}
use Rattle.flow_model.specs.Begin.{at_first}
use Rattle.flow_model.specs.Feeding.{fed, fed_put, fed_puts, fed_tuple, row_numbered}
use Rattle.flow_model.specs.Lanes.{lane_of, senders}
use Rattle.flow_model.specs.Law.{IsExecution, IsFinished, Progress, Duties, initial}
use Rattle.flow_model.specs.declared.topology.Lane.{Lane}
use Rattle.flow_model.specs.SetupView.{Worker}
use Rattle.flow_model.specs.Replay.{Put, items_sent, shown}
use Rattle.flow_model.specs.Run.{IsRunFrom, Ran, put_by}
use Rattle.flow_model.specs.Duties.{duties}
use Rattle.flow_model.specs.Workers.{workers_in, workers_at_node}
use Rattle.flow_model.proofs.ElementLemmas.{IsIn, all_of_at, before_first, before_second, in_cases, in_map, place_of_in}
use Rattle.flow_model.proofs.JobLemmas.{IsConnected}
use Rattle.flow_model.proofs.LaneLemmas.{LaneIn}
use Rattle.flow_model.proofs.PlannedLemmas.{HasCovers, dues_rise}
use Rattle.flow_model.proofs.AgreementLemmas.{BringSteadily, ComesAlong, HasAgreed, IsSteadyList, agreed, agreement_of, nodes_of}
use Rattle.flow_model.proofs.SendingLemmas.{in_items, sends_steadily}
use Rattle.flow_model.proofs.WorkerLemmas.{IsWorker, Stands, begun, item_at, journal_is, journal_of, journal_there, worker_no, who_there, stands_at, worker_is}

-- What the laws use of a run: its job is wired, its plans cover as they have to, its requests keep kinds and stand in order, its rows are
-- numbered and were nowhere yet, and it is a run.
pub record Running (rows : List Row) (ran : Ran) : Type 0 where
  pub connected : IsConnected ran.setup.job
  pub kept : HasCovers ran.setup
  pub kinds : KeepKinds ran.setup.job ran.setup.requests
  pub order : AreInOrder 0 ran.setup.requests
  pub rows_are : AreRows rows
  pub run : IsRunFrom (at_first ran.setup) rows ran

-- the run has a worker with this number
abbrev pub HasWorker : Ran → ℕ → Type 0
HasWorker ran w = w < length (workers_in ran.setup.job)

-- what the law asks of a worker, and how far its journal has come at first
abbrev pub duties_of : Ran → ℕ → Duties
duties_of ran w = duties ran.setup 0 (worker_no ran.setup w)

abbrev pub start_of : Ran → ℕ → Progress
start_of ran w = initial (duties_of ran w)

-- ---- the journal of each worker

module _ (rows : List Row) (ran : Ran) (g : Running rows ran) where
  pub journal_here : (w : ℕ) → HasWorker ran w → slice_get ran.journals w ≡ Some (journal_of ran w)
  journal_here w lt = journal_there ran w (omega (arith, g.run.one_journal_each))

  -- each worker began without counts
  empty_at_first : (w : ℕ) → HasWorker ran w → slice_get (at_first ran.setup).states w ≡ Some empty
  empty_at_first w lt = slice_get-map (λ (who : Worker). empty) (workers_in ran.setup.job) w ∙ ap (option_map (λ (who : Worker). empty)) (who_there ran.setup w lt)

  pub finished : (w : ℕ) → HasWorker ran w → IsFinished (duties_of ran w) (journal_of ran w)
  finished w lt =
      let state = item_at ran.states w (omega (arith, g.run.one_state_each)) in
      (g.run.worked w (worker_no ran.setup w) empty (journal_of ran w) state.0 (who_there ran.setup w lt) (empty_at_first w lt) (journal_here w lt) state.1).finished

  pub execution : (w : ℕ) → HasWorker ran w → IsExecution (duties_of ran w) (start_of ran w) (journal_of ran w)
  execution w lt = (finished w lt).lawful.execution

  -- ---- what a lane brings

  -- a lane's sender is the feeder, at a source, or a worker of the node that the lane leaves
  pub sender_of : (node : ℕ) (sender : Option ℕ) → IsIn sender (senders ran.setup.job node)
      → ((sender ≡ None) × (is_source_node (slice_get ran.setup.job.nodes node) ≡ true)) ⊎ ((s : ℕ) × (sender ≡ Some s) × Stands ran.setup node s)
  sender_of node sender i = go (is_source_node (slice_get ran.setup.job.nodes node)) refl i
    where
      go : (b : Bool) → is_source_node (slice_get ran.setup.job.nodes node) ≡ b → IsIn sender (cond b (None ∷ []) (map (λ (who : Worker). Some who.number) (workers_at_node ran.setup.job node)))
          → ((sender ≡ None) × (is_source_node (slice_get ran.setup.job.nodes node) ≡ true)) ⊎ ((s : ℕ) × (sender ≡ Some s) × Stands ran.setup node s)
      go true e (inl p) = inl (p, e)
      go true e (inr n) = absurd n
      go false e i =
          let r = in_map (λ (who : Worker). Some who.number) sender (workers_at_node ran.setup.job node) i in
          inr (r.0.number, r.2, (stands_at ran.setup node r.0 r.1).1)

  put_on : (n w : ℕ) → HasWorker ran w → (k : LaneIn ran.setup.job (worker_no ran.setup w) n) → put_by (at_first ran.setup) rows ran k.lane k.lane.sender ≡ Some (shown ran.setup n (journal_of ran w))
  put_on n w lt k =
      let receiver : k.lane.receiver ≡ w = k.receiver ∙ (worker_is ran.setup w lt).0 in
      g.run.conserved n k.lane (journal_of ran w) k.numbered (subst (λ v. slice_get ran.journals v ≡ Some (journal_of ran w)) (sym receiver) (journal_here w lt))

  -- the feeder's rows and then the end
  pub fed_there : (n w : ℕ) → HasWorker ran w → (k : LaneIn ran.setup.job (worker_no ran.setup w) n) → k.lane.sender ≡ None
      → shown ran.setup n (journal_of ran w) ≡ fed ran.setup.job rows 0 k.lane ran.feeds ++ item.Last ∷ []
  fed_there n w lt k none =
      let e : Some (fed ran.setup.job rows 0 k.lane ran.feeds ++ item.Last ∷ []) ≡ Some (shown ran.setup n (journal_of ran w)) =
      subst (λ o. put_by (at_first ran.setup) rows ran k.lane o ≡ Some (shown ran.setup n (journal_of ran w))) none (put_on n w lt k) in
      cc

  -- what the journal of the sender sends
  pub sent_there : (n w s : ℕ) → HasWorker ran w → HasWorker ran s → (k : LaneIn ran.setup.job (worker_no ran.setup w) n) → k.lane.sender ≡ Some s
      → shown ran.setup n (journal_of ran w) ≡ items_sent ran.setup (worker_no ran.setup s) (begun ran.setup s) k.lane (journal_of ran s)
  sent_there n w s lt ls k some =
      let e : put_by (at_first ran.setup) rows ran k.lane (Some s) ≡ Some (shown ran.setup n (journal_of ran w)) =
      subst (λ o. put_by (at_first ran.setup) rows ran k.lane o ≡ Some (shown ran.setup n (journal_of ran w))) some (put_on n w lt k) in
      let f : Some (items_sent ran.setup (worker_no ran.setup s) (begun ran.setup s) k.lane (journal_of ran s)) ≡ Some (shown ran.setup n (journal_of ran w)) =
      rw (who_there ran.setup s ls, empty_at_first s ls, journal_here s ls) at e in
      cc

-- ---- the feeder's lanes

-- what the feeder puts on its lanes is made of rows
pub in_fed_puts : (job : JobView) (rows : List Row) (issued : ℕ) (feeds : List Feed) (p : Put) → IsIn p (fed_puts job rows issued feeds)
    → (number : ℕ) × (row : Row) × (count : ℕ) × (row_numbered rows number ≡ Some row) × (p ≡ record { lane = lane_of job None row.source 0 row.tuple; item = item.Carry (fed_tuple count row) })
in_fed_puts job rows issued [] p h = absurd h
in_fed_puts job rows issued (feed.Fed number ∷ more) p h =
    elim (in_cases p (fed_put job issued (row_numbered rows number)) (fed_puts job rows issued more) h) [
      | inl a ↦ go (row_numbered rows number) refl a
      | inr b ↦ in_fed_puts job rows issued more p b
    ]
  where
    go : (o : Option Row) → row_numbered rows number ≡ o → IsIn p (fed_put job issued o)
        → (number : ℕ) × (row : Row) × (count : ℕ) × (row_numbered rows number ≡ Some row) × (p ≡ record { lane = lane_of job None row.source 0 row.tuple; item = item.Carry (fed_tuple count row) })
    go None e i = absurd i
    go (Some row) e (inl q) = (number, row, issued, e, q)
    go (Some row) e (inr n) = absurd n
in_fed_puts job rows issued (feed.Issued request ∷ more) p h = in_fed_puts job rows (issued + 1) more p h
in_fed_puts job rows issued (feed.Stopped ∷ more) p h = in_fed_puts job rows issued more p h

-- a row by its number
pub row_is : (rows : List Row) (number : ℕ) (row : Row) → AreRows rows → row_numbered rows number ≡ Some row → IsRow number row
row_is rows zero row are e = absurd (cc)
row_is rows (suc place) row are e = let n : place + 1 ≡ suc place = omega arith in subst (λ k. IsRow k row) n (are place row e)

-- there are so many rows
pub row_numbered-within : (rows : List Row) (number : ℕ) (row : Row) → row_numbered rows number ≡ Some row → number ≤ length rows
row_numbered-within rows zero row e = absurd (cc)
row_numbered-within rows (suc place) row e = let lt : place < length rows = slice_get_within rows place row e in omega arith

-- a tuple that was nowhere yet, or the end
abbrev pub IsFed : Item → Type 0
IsFed (item.Carry t) = t.trace ≡ []
IsFed (item.Mark r cover) = ⊥
IsFed item.Last = Unit {0}

pub fed_agree : (x y : Item) → IsFed x → IsFed y → Agrees x y
fed_agree (item.Carry t) (item.Carry u) a b = tt
fed_agree (item.Carry t) (item.Mark r c) a b = absurd b
fed_agree (item.Carry t) item.Last a b = tt
fed_agree (item.Mark r c) y a b = absurd a
fed_agree item.Last y a b = tt

pub in_fed : (job : JobView) (rows : List Row) (issued : ℕ) (lane : Lane) (feeds : List Feed) (x : Item) → AreRows rows → IsIn x (fed job rows issued lane feeds ++ item.Last ∷ []) → IsFed x
in_fed job rows issued lane feeds x are h =
    elim (in_cases x (fed job rows issued lane feeds) (item.Last ∷ []) h) [
      | inl a ↦
          let p = in_items lane (fed_puts job rows issued feeds) x a in
          let r = in_fed_puts job rows issued feeds p.0 p.1 in
          subst IsFed (sym (p.3 ∙ ap (λ (p : Put). p.item) r.4)) ((row_is rows r.0 r.1 are r.3).unmoved)
      | inr (inl e) ↦ subst IsFed (sym e) tt
      | inr (inr n) ↦ absurd n
    ]

fed_steady : (job : JobView) (rows : List Row) (lane : Lane) (feeds : List Feed) (node : ℕ) → IsConnected job → AreRows rows → is_source_node (slice_get job.nodes node) ≡ true
    → IsSteadyList (HasEdge job.edges) node (fed job rows 0 lane feeds ++ item.Last ∷ [])
fed_steady job rows lane feeds node connected are source = record {
  come = λ t i. along (nodes_of t) (ap (λ (vs : List Visit). map (λ (v : Visit). v.node) vs) (in_fed job rows 0 lane feeds (item.Carry t) are i));
  agree = λ x y b.
      fed_agree x y (in_fed job rows 0 lane feeds x are (before_first x y (fed job rows 0 lane feeds ++ item.Last ∷ []) b))
      (in_fed job rows 0 lane feeds y are (before_second x y (fed job rows 0 lane feeds ++ item.Last ∷ []) b));
}
  where
    none : (a : ℕ) → ¬ HasEdge job.edges a node
    none a (i, edge, lt, at, (from, to)) =
        let g : slice_get job.edges i ≡ Some edge = slice_get-get_or job.edges i edge lt ∙ ap Some at in
        let k : is_source_node (slice_get job.nodes node) ≡ false = subst (λ v. is_source_node (slice_get job.nodes v) ≡ false) to (connected.into i edge g) in
        cc

    along : (nodes : List ℕ) → nodes ≡ [] → ComesAlong (HasEdge job.edges) node nodes
    along nodes e = rw e none

-- ---- all lanes

module _ (rows : List Row) (ran : Ran) (g : Running rows ran) where
  -- what is delivered is steady, worker after worker in the order of their nodes
  steady_below : (bound w : ℕ) → HasWorker ran w → g.connected.rank (worker_no ran.setup w).node < bound → BringSteadily ran.setup (worker_no ran.setup w) (journal_of ran w)
  steady_below zero w l lt n k = absurd (omega arith)
  steady_below (suc bound) w l lt n k =
      let up : g.connected.rank k.edge.from < g.connected.rank k.edge.to = g.connected.forward k.lane.edge k.edge k.edge_is in
      let here : g.connected.rank k.edge.to ≡ g.connected.rank (worker_no ran.setup w).node = ap g.connected.rank k.to in
      by_sender k (λ v lv nv. steady_below bound v lv (let e : g.connected.rank (worker_no ran.setup v).node ≡ g.connected.rank k.edge.from = ap g.connected.rank nv in omega arith))
      (sender_of rows ran g k.edge.from k.lane.sender k.sends)
    where
      by_sender : (k : LaneIn ran.setup.job (worker_no ran.setup w) n)
          → ((v : ℕ) → HasWorker ran v → (worker_no ran.setup v).node ≡ k.edge.from → BringSteadily ran.setup (worker_no ran.setup v) (journal_of ran v))
          → ((k.lane.sender ≡ None) × (is_source_node (slice_get ran.setup.job.nodes k.edge.from) ≡ true)) ⊎ ((s : ℕ) × (k.lane.sender ≡ Some s) × Stands ran.setup k.edge.from s)
          → IsSteadyList (HasEdge ran.setup.job.edges) k.edge.from (shown ran.setup n (journal_of ran w))
      by_sender k earlier (inl fed) =
          subst (IsSteadyList (HasEdge ran.setup.job.edges) k.edge.from) (sym (fed_there rows ran g n w l k fed.0))
          (fed_steady ran.setup.job rows k.lane ran.feeds k.edge.from g.connected g.rows_are fed.1)
      by_sender k earlier (inr sender) =
          let s : ℕ = sender.0 in
          let there : Stands ran.setup k.edge.from s = sender.2 in
          let is : IsWorker ran.setup.job (worker_no ran.setup s) = (worker_is ran.setup s there.within).1 in
          let law = execution rows ran g s there.within in
          let delivered : BringSteadily ran.setup (worker_no ran.setup s) (journal_of ran s) = earlier s there.within there.node_is in
          let sends : IsSteadyList (HasEdge ran.setup.job.edges) (worker_no ran.setup s).node (items_sent ran.setup (worker_no ran.setup s) (begun ran.setup s) k.lane (journal_of ran s)) =
          sends_steadily ran.setup 0 (worker_no ran.setup s) is (begun ran.setup s) (journal_of ran s) law (dues_rise ran.setup 0 (worker_no ran.setup s).node 0 (omega arith)) delivered
          (agreed ran.setup g.kept 0 (worker_no ran.setup s) is (journal_of ran s) law delivered) k.lane in
          subst (IsSteadyList (HasEdge ran.setup.job.edges) k.edge.from) (sym (sent_there rows ran g n w s l there.within k sender.1))
          (subst (λ v. IsSteadyList (HasEdge ran.setup.job.edges) v (items_sent ran.setup (worker_no ran.setup s) (begun ran.setup s) k.lane (journal_of ran s))) there.node_is sends)

  -- every lane is steady
  pub all_steady : (w : ℕ) → HasWorker ran w → BringSteadily ran.setup (worker_no ran.setup w) (journal_of ran w)
  all_steady w l = steady_below (suc (g.connected.rank (worker_no ran.setup w).node)) w l (omega arith)

  -- each worker's tuples agree with its turns
  pub all_agree : (w : ℕ) → HasWorker ran w → HasAgreed ran.setup (journal_of ran w)
  all_agree w l = agreed ran.setup g.kept 0 (worker_no ran.setup w) (worker_is ran.setup w l).1 (journal_of ran w) (execution rows ran g w l) (all_steady w l)

  pub all_agreements : All (Agreement ran.setup) ran.journals
  all_agreements =
      all_of_at (Agreement ran.setup) ran.journals (λ journal i.
      let k = place_of_in journal ran.journals i in
      let lt = slice_get_within ran.journals k.0 journal k.1 in
      subst (Agreement ran.setup) (journal_is ran k.0 journal k.1) (agreement_of ran.setup (journal_of ran k.0) (all_agree k.0 (omega (arith, lt, g.run.one_journal_each)))))
