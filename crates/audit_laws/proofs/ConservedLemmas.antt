-- Journals that are tied to those of their senders, worker after worker in the order of their nodes.
use Rattle.std.proofs.Common.{◌≡◌, ◌∙◌, ◌<◌, ◌==◌, ℕ, zero, suc, List, [], ◌∷◌, ◌⊎◌, inl, inr, refl, sym, ap, subst, arith, true, false, Bool, cond, map, Some, None, Option, slice_get, option_map}
use Rattle.std.proofs.lemmas.Bool.{eqb-true}
use Rattle.std.proofs.lemmas.Option.{same_Some}
use Rattle.jobs.specs.Nodes.{is_source_node}
use Rattle.jobs.specs.JobView.{JobView}
use Rattle.sink_journal.specs.declared.journal.Entry.{Entry}
use Rattle.tuple_trace.specs.declared.row.Row.{Row}
use Rattle.flow_model.specs.Begin.{Begin}
use Rattle.flow_model.specs.Lanes.{lanes, lanes_in, senders}
use Rattle.flow_model.specs.SetupView.{SetupView, Worker}
use Rattle.flow_model.specs.declared.topology.Lane.{Lane}
use Rattle.flow_model.specs.Replay.{shown}
use Rattle.flow_model.specs.Run.{put_by, ran_as, sent_by}
use Rattle.flow_model.specs.Workers.{workers_in, workers_at_node}
use Rattle.flow_model.proofs.ElementLemmas.{IsIn, in_map}
use Rattle.flow_model.proofs.JobLemmas.{IsConnected}
use Rattle.flow_model.proofs.LaneLemmas.{LaneIn, in_lanes_that, lane_into}
use Rattle.flow_model.proofs.WorkerLemmas.{IsWorker, in_workers, in_workers_at_node, worker_with}
use Rattle.audit_laws.specs.Delivered.{delivered, feed_of}
use Rattle.audit_laws.specs.Checked.{ShowsDelivered}
use Rattle.audit_laws.specs.Trimmed.{trimmed}
use Rattle.audit_laws.proofs.TrimLemmas.{MetOn, ShowSame, same_journal}

-- the journal of a worker shows what its lanes bring
pub record IsConservedAt (begin : Begin) (setup : SetupView) (rows : List Row) (journals : List (List Entry)) (w : ℕ) : Type 0 where
  pub journal : List Entry
  pub there : slice_get journals w ≡ Some journal
  pub met : MetOn (lanes_in setup.job w) journal
  pub conserved : ShowsDelivered begin setup rows journals w journal

-- the sender of a lane is the feeder, or a worker of the node that the lane leaves
pub sender_stands : (job : JobView) (node : ℕ) (sender : Option ℕ) → IsIn sender (senders job node)
    → (sender ≡ None) ⊎ ((who : Worker) × (sender ≡ Some who.number) × (slice_get (workers_in job) who.number ≡ Some who) × (who.node ≡ node))
sender_stands job node sender i = go (is_source_node (slice_get job.nodes node)) i
  where
    go : (b : Bool) → IsIn sender (cond b (None ∷ []) (map (λ (who : Worker). Some who.number) (workers_at_node job node)))
        → (sender ≡ None) ⊎ ((who : Worker) × (sender ≡ Some who.number) × (slice_get (workers_in job) who.number ≡ Some who) × (who.node ≡ node))
    go true (inl e) = inl e
    go true (inr n) = absurd n
    go false i =
        let r = in_map (λ (who : Worker). Some who.number) sender (workers_at_node job node) i in
        let p = in_workers_at_node job node r.0 r.1 in
        let is : IsWorker job r.0 = in_workers job r.0 p.0 in
        inr (r.0, r.2, is.there, p.1)

-- with a worker all workers of nodes of lower rank are among these
abbrev pub IsClosed : (setup : SetupView) → IsConnected setup.job → (ℕ → Type 0) → Type 0
IsClosed setup connected Done =
    (w s : ℕ) (who sender : Worker) → slice_get (workers_in setup.job) w ≡ Some who → slice_get (workers_in setup.job) s ≡ Some sender → connected.rank sender.node < connected.rank who.node
    → Done w → Done s

module _ (begin : Begin) (setup : SetupView) (connected : IsConnected setup.job) (rows : List Row) (A B : List (List Entry)) (Done : ℕ → Type 0) (closed : IsClosed setup connected Done)
    (a : (w : ℕ) → Done w → IsConservedAt begin setup rows A w) (b : (w : ℕ) → Done w → IsConservedAt begin setup rows B w)
    (same : (w : ℕ) → Done w → option_map trimmed (slice_get A w) ≡ option_map trimmed (slice_get B w))
  where
    -- a lane brings the same, where its sender's journal is the same
    brings : (lane : Lane) (o : Option ℕ) → ((s : ℕ) → o ≡ Some s → slice_get A s ≡ slice_get B s)
        → put_by begin rows (ran_as setup (feed_of begin setup rows) A []) lane o ≡ put_by begin rows (ran_as setup (feed_of begin setup rows) B []) lane o
    brings lane None h = refl
    brings lane (Some s) h =
        ap (λ (j : Option (List Entry)). sent_by setup begin lane (slice_get (workers_in setup.job) s) (slice_get begin.states s) j) (h s refl)

    -- what is so of each worker of an earlier node that is among them
    abbrev Before : ℕ → Type 0
    Before bound = (s : ℕ) (who : Worker) → slice_get (workers_in setup.job) s ≡ Some who → Done s → connected.rank who.node < bound → slice_get A s ≡ slice_get B s

    by_sender : (bound from s : ℕ) (o : Option ℕ) → Before bound
        → (o ≡ None) ⊎ ((who : Worker) × (o ≡ Some who.number) × (slice_get (workers_in setup.job) who.number ≡ Some who) × (who.node ≡ from))
        → o ≡ Some s → ((sender : Worker) → slice_get (workers_in setup.job) s ≡ Some sender → sender.node ≡ from → Done s) → connected.rank from < bound → slice_get A s ≡ slice_get B s
    by_sender bound from s o h (inl none) e d lt = absurd (cc)
    by_sender bound from s o h (inr (q, is, there, node)) e d lt =
        let number : q.number ≡ s = same_Some q.number s (sym is ∙ e) in
        let there' : slice_get (workers_in setup.job) s ≡ Some q = subst (λ v. slice_get (workers_in setup.job) v ≡ Some q) number there in
        h s q there' (d q there' node) (subst (λ v. connected.rank v < bound) (sym node) lt)

    -- the sender of a lane into a worker has the same journal
    earlier : (bound w : ℕ) (who : Worker) → slice_get (workers_in setup.job) w ≡ Some who → Done w → connected.rank who.node < suc bound → Before bound
        → (n : ℕ) (lane : Lane) → slice_get (lanes setup.job) n ≡ Some lane → lane.receiver ≡ w → (s : ℕ) → lane.sender ≡ Some s → slice_get A s ≡ slice_get B s
    earlier bound w who p d lt h n lane g r s e =
        let here = worker_with setup.job w who p in
        let k : LaneIn setup.job who n = lane_into setup.job who n lane here.1 g (r ∙ sym here.0) in
        let one : lane ≡ k.lane = same_Some lane k.lane (sym g ∙ k.numbered) in
        let up : connected.rank k.edge.from < connected.rank k.edge.to = connected.forward k.lane.edge k.edge k.edge_is in
        let to : connected.rank k.edge.to ≡ connected.rank who.node = ap connected.rank k.to in
        by_sender bound k.edge.from s k.lane.sender h (sender_stands setup.job k.edge.from k.lane.sender k.sends) (sym (ap (λ (l : Lane). l.sender) one) ∙ e)
        (λ sender there node. closed w s who sender p there (let same : connected.rank sender.node ≡ connected.rank k.edge.from = ap connected.rank node in omega arith) d) (omega arith)

    shows : (w : ℕ) (x : IsConservedAt begin setup rows A w) (y : IsConservedAt begin setup rows B w)
        → ((n : ℕ) (lane : Lane) → slice_get (lanes setup.job) n ≡ Some lane → lane.receiver ≡ w → (s : ℕ) → lane.sender ≡ Some s → slice_get A s ≡ slice_get B s)
        → ShowSame setup (lanes_in setup.job w) x.journal y.journal
    shows w x y senders n i =
        let l = in_lanes_that (λ (lane : Lane). lane.receiver == w) setup.job n i in
        let r : l.0.receiver ≡ w = eqb-true l.0.receiver w l.2 in
        let u : delivered begin setup rows A l.0 ≡ Some (shown setup n x.journal) = x.conserved n l.0 l.1 r in
        let v : delivered begin setup rows B l.0 ≡ Some (shown setup n y.journal) = y.conserved n l.0 l.1 r in
        same_Some (shown setup n x.journal) (shown setup n y.journal) (sym u ∙ (brings l.0 l.0.sender (senders n l.0 l.1 r) ∙ v))

    below : (bound w : ℕ) (who : Worker) → slice_get (workers_in setup.job) w ≡ Some who → Done w → connected.rank who.node < bound → slice_get A w ≡ slice_get B w
    below zero w who p d lt = absurd (omega arith)
    below (suc bound) w who p d lt =
        let x : IsConservedAt begin setup rows A w = a w d in
        let y : IsConservedAt begin setup rows B w = b w d in
        let e : Some (trimmed x.journal) ≡ Some (trimmed y.journal) = sym (ap (option_map trimmed) x.there) ∙ (same w d ∙ ap (option_map trimmed) y.there) in
        let t : trimmed x.journal ≡ trimmed y.journal = same_Some (trimmed x.journal) (trimmed y.journal) e in
        let s : ShowSame setup (lanes_in setup.job w) x.journal y.journal = shows w x y (earlier bound w who p d lt (λ s q. below bound s q)) in
        x.there ∙ (ap Some (same_journal setup (lanes_in setup.job w) x.journal y.journal t x.met s) ∙ sym y.there)

    pub same_journals : (w : ℕ) (who : Worker) → slice_get (workers_in setup.job) w ≡ Some who → Done w → slice_get A w ≡ slice_get B w
    same_journals w who p d = below (suc (connected.rank who.node)) w who p d (omega arith)
