-- In a run from a beginning on what each lane brings is what was put on it, every lane is steady, and each worker's tuples agree with its turns.
use Rattle.std.proofs.Common.{◌≡◌, ◌∙◌, ◌<◌, ◌++◌, ℕ, zero, suc, List, [], ◌∷◌, ◌⊎◌, inl, inr, refl, sym, subst, ap, arith, true, false, Bool, cond, length, map, Some, None, Option, slice_get, All}
use Rattle.std.specs.FinMap.{empty}
use Rattle.std.specs.Prelude.{slice_index_or}
use Rattle.std.proofs.lemmas.Option.{get_or_from_slice_get, slice_get-get_or, slice_get_within}
use Rattle.flow_dag.specs.Edges.{HasEdge}
use Rattle.jobs.specs.Job.{job_view}
use Rattle.jobs.specs.Nodes.{is_source_node}
use Rattle.jobs.specs.JobView.{JobView}
use Rattle.keyed_state.specs.Counts.{Counts}
use Rattle.sink_journal.specs.declared.journal.Feed.{Feed}
use Rattle.tuple_trace.specs.Rows.{AreRows}
use Rattle.tuple_trace.specs.declared.row.Row.{Row}
use Rattle.tuple_trace.specs.declared.tuple.Item.TheVariants as item
use Rattle.tuple_trace.specs.declared.tuple.Visit.{Visit}
use Rattle.versions.specs.Kept.{KeepKinds}
use Rattle.versions.proofs.KeptLemmas.{accepted-kept}
use Rattle.flow_model.specs.Agreement.{Agreement}
use Rattle.flow_model.specs.Begin.{Begin, last_after, view_at}
use Rattle.flow_model.specs.Feeding.{fed}
use Rattle.flow_model.specs.Lanes.{senders}
use Rattle.flow_model.specs.Law.{Duties, IsExecution, IsFinished, Progress, initial}
use Rattle.flow_model.specs.declared.topology.Lane.{Lane}
use Rattle.flow_model.specs.SetupView.{SetupView, Worker}
use Rattle.flow_model.specs.Replay.{StateView, items_sent, shown}
use Rattle.flow_model.specs.Run.{IsRunFrom, IsRunSince, Ran, put_by}
use Rattle.flow_model.specs.Duties.{dues_after, duties}
use Rattle.flow_model.specs.Setup.{setup_view}
use Rattle.flow_model.specs.Workers.{workers_at_node}
use Rattle.flow_model.specs.declared.setup.Setup.{Setup}
use Rattle.flow_model.proofs.ElementLemmas.{IsIn, all_of_at, before_first, before_second, in_map, place_of_in}
use Rattle.flow_model.proofs.JobLemmas.{IsConnected, connected}
use Rattle.flow_model.proofs.LaneLemmas.{LaneIn}
use Rattle.flow_model.proofs.PlannedLemmas.{HasCovers, dues_rise, has_covers}
use Rattle.flow_model.proofs.AgreementLemmas.{BringSteadily, ComesAlong, HasAgreed, IsSteadyList, agreed, agreement_of, nodes_of}
use Rattle.flow_model.proofs.RunLemmas.{HasWorker, fed_agree, in_fed}
use Rattle.flow_model.proofs.SendingLemmas.{sends_steadily}
use Rattle.flow_model.proofs.StoryLemmas.{IsRising}
use Rattle.flow_model.proofs.WorkerLawLemmas.{last_within}
use Rattle.flow_model.proofs.WorkerLemmas.{IsWorker, Stands, item_at, journal_is, journal_of, journal_there, stands_at, who_there, worker_is, worker_no}

-- What the laws use of a run from a beginning on: its job is wired, its plans cover as they have to, its requests keep kinds, its rows are
-- numbered and were nowhere yet, and it is a run from there.
pub record RunningFrom (begin : Begin) (rows : List Row) (ran : Ran) : Type 0 where
  pub connected : IsConnected ran.setup.job
  pub kept : HasCovers ran.setup
  pub kinds : KeepKinds ran.setup.job ran.setup.requests
  pub rows_are : AreRows rows
  pub run : IsRunFrom begin rows ran

-- what the type of a setup keeps of it
record SetupKeeps (setup : SetupView) : Type 0 where
  connected_job : IsConnected setup.job
  covers : HasCovers setup
  kinds : KeepKinds setup.job setup.requests

kept_view : (setup : Setup) → SetupKeeps (setup_view setup)
kept_view setup = record {
  connected_job = connected (job_view setup.job) setup.job.dag setup.job.lawful refl setup.job.drawn;
  covers = has_covers (setup_view setup) setup.planned;
  kinds = accepted-kept (job_view setup.job) setup.judged.accepted setup.accepted;
}

pub running_from : (setup : Setup) (begin : Begin) (rows : List Row) (ran : Ran) → AreRows rows → IsRunSince begin (setup_view setup) rows ran → RunningFrom begin rows ran
running_from setup begin rows ran are is =
    let kept : SetupKeeps ran.setup = subst SetupKeeps (sym is.setup_is) (kept_view setup) in
    record { connected = kept.connected_job; kept = kept.covers; kinds = kept.kinds; rows_are = are; run = is.run }

-- the counts of a worker at the beginning
unfoldable pub counts_of : Begin → ℕ → Counts
counts_of begin w = slice_index_or begin.states w empty

pub counts_there : (begin : Begin) (w : ℕ) → w < length begin.states → slice_get begin.states w ≡ Some (counts_of begin w)
unfolding counts_of
counts_there begin w lt = let r = item_at begin.states w lt in r.1 ∙ ap Some (sym (get_or_from_slice_get begin.states w r.0 empty r.1))

-- what is in force at a worker at the beginning
abbrev pub begun_from : Begin → SetupView → ℕ → StateView
begun_from begin setup w = view_at setup begin.turned (worker_no setup w) (counts_of begin w)

-- what the law asks of a worker, and how far its journal has come at the beginning
abbrev pub duties_from : Begin → Ran → ℕ → Duties
duties_from begin ran w = duties ran.setup begin.turned (worker_no ran.setup w)

abbrev pub start_from : Begin → Ran → ℕ → Progress
start_from begin ran w = initial (duties_from begin ran w)

-- what a worker has still to turn comes after all that it has turned
pub rise_from : (begin : Begin) (ran : Ran) (w : ℕ) → IsRising (begun_from begin ran.setup w).last (dues_after ran.setup begin.turned (worker_no ran.setup w).node)
rise_from begin ran w =
    dues_rise ran.setup begin.turned (worker_no ran.setup w).node (last_after ran.setup (worker_no ran.setup w).node begin.turned) (last_within ran.setup (worker_no ran.setup w).node begin.turned)

-- ---- the journal of each worker

module _ (begin : Begin) (rows : List Row) (ran : Ran) (g : RunningFrom begin rows ran) where
  journal_here : (w : ℕ) → HasWorker ran w → slice_get ran.journals w ≡ Some (journal_of ran w)
  journal_here w lt = journal_there ran w (omega (arith, g.run.one_journal_each))

  counts_here : (w : ℕ) → HasWorker ran w → slice_get begin.states w ≡ Some (counts_of begin w)
  counts_here w lt = counts_there begin w (omega (arith, g.run.one_start_each))

  pub finished : (w : ℕ) → HasWorker ran w → IsFinished (duties_from begin ran w) (journal_of ran w)
  finished w lt =
      let state = item_at ran.states w (omega (arith, g.run.one_state_each)) in
      (g.run.worked w (worker_no ran.setup w) (counts_of begin w) (journal_of ran w) state.0 (who_there ran.setup w lt) (counts_here w lt) (journal_here w lt) state.1).finished

  pub execution : (w : ℕ) → HasWorker ran w → IsExecution (duties_from begin ran w) (start_from begin ran w) (journal_of ran w)
  execution w lt = (finished w lt).lawful.execution

  -- ---- what a lane brings

  -- a lane's sender is the feeder, at a source, or a worker of the node that the lane leaves
  pub sender_of : (node : ℕ) (sender : Option ℕ) → IsIn sender (senders ran.setup.job node)
      → ((sender ≡ None) × (is_source_node (slice_get ran.setup.job.nodes node) ≡ true)) ⊎ ((s : ℕ) × (sender ≡ Some s) × Stands ran.setup node s)
  sender_of node sender i = go (is_source_node (slice_get ran.setup.job.nodes node)) refl i
    where
      go : (b : Bool) → is_source_node (slice_get ran.setup.job.nodes node) ≡ b → IsIn sender (cond b (None ∷ []) (map (λ (who : Worker). Some who.number) (workers_at_node ran.setup.job node)))
          → ((sender ≡ None) × (is_source_node (slice_get ran.setup.job.nodes node) ≡ true)) ⊎ ((s : ℕ) × (sender ≡ Some s) × Stands ran.setup node s)
      go true e (inl p) = inl (p, e)
      go true e (inr n) = absurd n
      go false e i =
          let r = in_map (λ (who : Worker). Some who.number) sender (workers_at_node ran.setup.job node) i in
          inr (r.0.number, r.2, (stands_at ran.setup node r.0 r.1).1)

  put_on : (n w : ℕ) → HasWorker ran w → (k : LaneIn ran.setup.job (worker_no ran.setup w) n) → put_by begin rows ran k.lane k.lane.sender ≡ Some (shown ran.setup n (journal_of ran w))
  put_on n w lt k =
      let receiver : k.lane.receiver ≡ w = k.receiver ∙ (worker_is ran.setup w lt).0 in
      g.run.conserved n k.lane (journal_of ran w) k.numbered (subst (λ v. slice_get ran.journals v ≡ Some (journal_of ran w)) (sym receiver) (journal_here w lt))

  -- the feeder's rows and then the end
  pub fed_there : (n w : ℕ) → HasWorker ran w → (k : LaneIn ran.setup.job (worker_no ran.setup w) n) → k.lane.sender ≡ None
      → shown ran.setup n (journal_of ran w) ≡ fed ran.setup.job rows begin.turned k.lane ran.feeds ++ item.Last ∷ []
  fed_there n w lt k none =
      let e : Some (fed ran.setup.job rows begin.turned k.lane ran.feeds ++ item.Last ∷ []) ≡ Some (shown ran.setup n (journal_of ran w)) =
      subst (λ o. put_by begin rows ran k.lane o ≡ Some (shown ran.setup n (journal_of ran w))) none (put_on n w lt k) in
      cc

  -- what the journal of the sender sends
  pub sent_there : (n w s : ℕ) → HasWorker ran w → HasWorker ran s → (k : LaneIn ran.setup.job (worker_no ran.setup w) n) → k.lane.sender ≡ Some s
      → shown ran.setup n (journal_of ran w) ≡ items_sent ran.setup (worker_no ran.setup s) (begun_from begin ran.setup s) k.lane (journal_of ran s)
  sent_there n w s lt ls k some =
      let e : put_by begin rows ran k.lane (Some s) ≡ Some (shown ran.setup n (journal_of ran w)) =
      subst (λ o. put_by begin rows ran k.lane o ≡ Some (shown ran.setup n (journal_of ran w))) some (put_on n w lt k) in
      let f : Some (items_sent ran.setup (worker_no ran.setup s) (begun_from begin ran.setup s) k.lane (journal_of ran s)) ≡ Some (shown ran.setup n (journal_of ran w)) =
      rw (who_there ran.setup s ls, counts_here s ls, journal_here s ls) at e in
      cc

-- ---- the feeder's lanes

fed_steady : (job : JobView) (rows : List Row) (issued : ℕ) (lane : Lane) (feeds : List Feed) (node : ℕ) → IsConnected job → AreRows rows → is_source_node (slice_get job.nodes node) ≡ true
    → IsSteadyList (HasEdge job.edges) node (fed job rows issued lane feeds ++ item.Last ∷ [])
fed_steady job rows issued lane feeds node connected are source = record {
  come = λ t i. along (nodes_of t) (ap (λ (vs : List Visit). map (λ (v : Visit). v.node) vs) (in_fed job rows issued lane feeds (item.Carry t) are i));
  agree = λ x y b.
      fed_agree x y (in_fed job rows issued lane feeds x are (before_first x y (fed job rows issued lane feeds ++ item.Last ∷ []) b))
      (in_fed job rows issued lane feeds y are (before_second x y (fed job rows issued lane feeds ++ item.Last ∷ []) b));
}
  where
    none : (a : ℕ) → ¬ HasEdge job.edges a node
    none a (i, edge, lt, at, (from, to)) =
        let g : slice_get job.edges i ≡ Some edge = slice_get-get_or job.edges i edge lt ∙ ap Some at in
        let k : is_source_node (slice_get job.nodes node) ≡ false = subst (λ v. is_source_node (slice_get job.nodes v) ≡ false) to (connected.into i edge g) in
        cc

    along : (nodes : List ℕ) → nodes ≡ [] → ComesAlong (HasEdge job.edges) node nodes
    along nodes e = rw e none

-- ---- all lanes

module _ (begin : Begin) (rows : List Row) (ran : Ran) (g : RunningFrom begin rows ran) where
  -- what is delivered is steady, worker after worker in the order of their nodes
  steady_below : (bound w : ℕ) → HasWorker ran w → g.connected.rank (worker_no ran.setup w).node < bound → BringSteadily ran.setup (worker_no ran.setup w) (journal_of ran w)
  steady_below zero w l lt n k = absurd (omega arith)
  steady_below (suc bound) w l lt n k =
      let up : g.connected.rank k.edge.from < g.connected.rank k.edge.to = g.connected.forward k.lane.edge k.edge k.edge_is in
      let here : g.connected.rank k.edge.to ≡ g.connected.rank (worker_no ran.setup w).node = ap g.connected.rank k.to in
      by_sender k (λ v lv nv. steady_below bound v lv (let e : g.connected.rank (worker_no ran.setup v).node ≡ g.connected.rank k.edge.from = ap g.connected.rank nv in omega arith))
      (sender_of begin rows ran g k.edge.from k.lane.sender k.sends)
    where
      by_sender : (k : LaneIn ran.setup.job (worker_no ran.setup w) n)
          → ((v : ℕ) → HasWorker ran v → (worker_no ran.setup v).node ≡ k.edge.from → BringSteadily ran.setup (worker_no ran.setup v) (journal_of ran v))
          → ((k.lane.sender ≡ None) × (is_source_node (slice_get ran.setup.job.nodes k.edge.from) ≡ true)) ⊎ ((s : ℕ) × (k.lane.sender ≡ Some s) × Stands ran.setup k.edge.from s)
          → IsSteadyList (HasEdge ran.setup.job.edges) k.edge.from (shown ran.setup n (journal_of ran w))
      by_sender k earlier (inl fed) =
          subst (IsSteadyList (HasEdge ran.setup.job.edges) k.edge.from) (sym (fed_there begin rows ran g n w l k fed.0))
          (fed_steady ran.setup.job rows begin.turned k.lane ran.feeds k.edge.from g.connected g.rows_are fed.1)
      by_sender k earlier (inr sender) =
          let s : ℕ = sender.0 in
          let there : Stands ran.setup k.edge.from s = sender.2 in
          let is : IsWorker ran.setup.job (worker_no ran.setup s) = (worker_is ran.setup s there.within).1 in
          let law = execution begin rows ran g s there.within in
          let delivered : BringSteadily ran.setup (worker_no ran.setup s) (journal_of ran s) = earlier s there.within there.node_is in
          let sends : IsSteadyList (HasEdge ran.setup.job.edges) (worker_no ran.setup s).node (items_sent ran.setup (worker_no ran.setup s) (begun_from begin ran.setup s) k.lane (journal_of ran s)) =
          sends_steadily ran.setup begin.turned (worker_no ran.setup s) is (begun_from begin ran.setup s) (journal_of ran s) law (rise_from begin ran s) delivered
          (agreed ran.setup g.kept begin.turned (worker_no ran.setup s) is (journal_of ran s) law delivered) k.lane in
          subst (IsSteadyList (HasEdge ran.setup.job.edges) k.edge.from) (sym (sent_there begin rows ran g n w s l there.within k sender.1))
          (subst (λ v. IsSteadyList (HasEdge ran.setup.job.edges) v (items_sent ran.setup (worker_no ran.setup s) (begun_from begin ran.setup s) k.lane (journal_of ran s))) there.node_is sends)

  -- every lane is steady
  all_steady : (w : ℕ) → HasWorker ran w → BringSteadily ran.setup (worker_no ran.setup w) (journal_of ran w)
  all_steady w l = steady_below (suc (g.connected.rank (worker_no ran.setup w).node)) w l (omega arith)

  -- each worker's tuples agree with its turns
  pub all_agree : (w : ℕ) → HasWorker ran w → HasAgreed ran.setup (journal_of ran w)
  all_agree w l = agreed ran.setup g.kept begin.turned (worker_no ran.setup w) (worker_is ran.setup w l).1 (journal_of ran w) (execution begin rows ran g w l) (all_steady w l)

  pub all_agreements : All (Agreement ran.setup) ran.journals
  all_agreements =
      all_of_at (Agreement ran.setup) ran.journals (λ journal i.
      let k = place_of_in journal ran.journals i in
      let lt = slice_get_within ran.journals k.0 journal k.1 in
      subst (Agreement ran.setup) (journal_is ran k.0 journal k.1) (agreement_of ran.setup (journal_of ran k.0) (all_agree k.0 (omega (arith, lt, g.run.one_journal_each)))))
