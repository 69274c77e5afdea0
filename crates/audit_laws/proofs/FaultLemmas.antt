-- An audit of a run has no fault.
use Rattle.std.proofs.Common.{◌≡◌, ◌∙◌, ◌<◌, ℕ, List, [], ◌⊎◌, inl, inr, refl, sym, ap, subst, arith, length, map, Some, None, Option, slice_get, option_map}
use Rattle.std.specs.FinMap.{entries}
use Rattle.std.proofs.lemmas.Option.{same_Some, slice_get-map}
use Rattle.flow_dag.specs.Dag.{DagView}
use Rattle.flow_dag.specs.Edges.{HasEdge}
use Rattle.flow_dag.specs.Order.{place_of}
use Rattle.flow_dag.proofs.EdgeLemmas.{HasEdge-at}
use Rattle.flow_dag.proofs.PlaceLemmas.{place_of-below, place_of-forward}
use Rattle.flow_dag.specs.declared.edge.Edge.{Edge}
use Rattle.jobs.specs.JobView.{JobView}
use Rattle.keyed_state.specs.Counts.{Counts}
use Rattle.sink_journal.specs.declared.journal.Entry.{Entry}
use Rattle.tuple_trace.specs.Rows.{AreRows}
use Rattle.tuple_trace.specs.declared.row.Row.{Row}
use Rattle.flow_model.specs.Begin.{Begin}
use Rattle.flow_model.specs.Lanes.{lanes, lanes_in}
use Rattle.flow_model.specs.Law.{initial}
use Rattle.flow_model.specs.SetupView.{SetupView, Worker}
use Rattle.flow_model.specs.declared.topology.Lane.{Lane}
use Rattle.flow_model.specs.Replay.{shown}
use Rattle.flow_model.specs.Run.{IsRunFrom, put_by, ran_as, sent_by}
use Rattle.flow_model.specs.Duties.{duties}
use Rattle.flow_model.specs.Workers.{workers_in}
use Rattle.flow_model.proofs.JobLemmas.{IsConnected}
use Rattle.flow_model.proofs.LaneLemmas.{LaneIn, lane_into}
use Rattle.flow_model.proofs.PlannedLemmas.{due_covers}
use Rattle.flow_model.proofs.WorkerLemmas.{worker_with}
use Rattle.audit_fault.specs.declared.fault.AuditFault.{AuditFault}
use Rattle.audit_fault.specs.declared.fault.AuditFault.TheVariants as fault
use Rattle.audit_laws.specs.Delivered.{delivered, feed_of}
use Rattle.audit_laws.specs.Checked.{IsChecked}
use Rattle.audit_laws.specs.Faults.{AreItems, ComesBefore, HasBadLane, HasBadLaw, HasBadState, IsFaultOfWorkers, IsRestored}
use Rattle.audit_laws.specs.Trimmed.{trimmed}
use Rattle.audit_laws.proofs.CheckedLemmas.{met_by_draft, run_checked}
use Rattle.audit_laws.proofs.OneRunLemmas.{Left, left_of, conserved_by_run}
use Rattle.flow_model.proofs.AgreementLemmas.{some_plan}
use Rattle.audit_laws.proofs.SeenLemmas.{MarksPlans, marked_is_due, seen_shown}
use Rattle.audit_laws.proofs.ConservedLemmas.{IsClosed, IsConservedAt, same_journals, sender_stands}
use Rattle.audit_laws.proofs.TrimLemmas.{MetOn}

-- ---- ranks by the order of the nodes

-- the places in an order of the nodes are ranks
abbrev pub in_order : (job : JobView) → IsConnected job → (order : List ℕ) → ((node : ℕ) → node < length job.nodes → place_of order node < length job.nodes)
    → ((i : ℕ) (edge : Edge) → slice_get job.edges i ≡ Some edge → place_of order edge.from < place_of order edge.to) → IsConnected job
in_order job connected order below forward = record {
  rank = place_of order;
  below = below;
  forward = forward;
  ends = connected.ends;
  into = connected.into;
  ports = connected.ports;
  manned = connected.manned;
  reached = connected.reached;
}

-- what a lane brings is the same, where the journals of workers of nodes of lower rank are
pub brings_same : (begin : Begin) (setup : SetupView) (connected : IsConnected setup.job) (rows : List Row) (A B : List (List Entry)) (n : ℕ) (lane : Lane) (who : Worker)
    → slice_get (lanes setup.job) n ≡ Some lane → slice_get (workers_in setup.job) lane.receiver ≡ Some who
    → ((s : ℕ) (sender : Worker) → slice_get (workers_in setup.job) s ≡ Some sender → connected.rank sender.node < connected.rank who.node → slice_get A s ≡ slice_get B s)
    → delivered begin setup rows A lane ≡ delivered begin setup rows B lane
brings_same begin setup connected rows A B n lane who g p h =
    let here = worker_with setup.job lane.receiver who p in
    let k : LaneIn setup.job who n = lane_into setup.job who n lane here.1 g (sym here.0) in
    let one : lane ≡ k.lane = same_Some lane k.lane (sym g ∙ k.numbered) in
    let up : connected.rank k.edge.from < connected.rank k.edge.to = connected.forward k.lane.edge k.edge k.edge_is in
    let to : connected.rank k.edge.to ≡ connected.rank who.node = ap connected.rank k.to in
    by_sender k.edge.from lane.sender
    (subst (λ o. (o ≡ None) ⊎ ((q : Worker) × (o ≡ Some q.number) × (slice_get (workers_in setup.job) q.number ≡ Some q) × (q.node ≡ k.edge.from))) (sym (ap (λ (l : Lane). l.sender) one))
    (sender_stands setup.job k.edge.from k.lane.sender k.sends))
    (omega arith)
  where
    by_sender : (from : ℕ) (o : Option ℕ) → (o ≡ None) ⊎ ((q : Worker) × (o ≡ Some q.number) × (slice_get (workers_in setup.job) q.number ≡ Some q) × (q.node ≡ from))
        → connected.rank from < connected.rank who.node
        → put_by begin rows (ran_as setup (feed_of begin setup rows) A []) lane o ≡ put_by begin rows (ran_as setup (feed_of begin setup rows) B []) lane o
    by_sender from o (inl none) lt = rw none refl
    by_sender from o (inr (q, is, there, node)) lt =
        rw is (ap (λ (j : Option (List Entry)). sent_by setup begin lane (slice_get (workers_in setup.job) q.number) (slice_get begin.states q.number) j)
        (h q.number q there (subst (λ v. connected.rank v < connected.rank who.node) (sym node) lt)))

module _ (begin : Begin) (setup : SetupView) (connected : IsConnected setup.job) (rows : List Row) (are : AreRows rows) (journals : List (List Entry)) (states : List Counts)
    (run : IsRunFrom begin rows (ran_as setup (feed_of begin setup rows) journals states))
  where
    checked : IsChecked begin setup rows (map trimmed journals) journals states
    checked = run_checked begin setup connected rows are journals states run

    -- a restored journal is tied to those of its senders
    conserved_by_restored : (other : List (List Entry)) (w : ℕ) (who : Worker) → slice_get (workers_in setup.job) w ≡ Some who → IsRestored begin setup rows (map trimmed journals) other w
        → IsConservedAt begin setup rows other w
    conserved_by_restored other w who p r = record {
      journal = r.journal;
      there = r.there;
      met = subst (λ v. MetOn (lanes_in setup.job v) r.journal) (worker_with setup.job w who p).0 (met_by_draft begin setup rows who r.journal (checked.finished w who (trimmed r.journal) p r.kept_there));
      conserved = r.shows;
    }

    -- so it is the run's
    restored_same : (other : List (List Entry)) (Done : ℕ → Type 0) → IsClosed setup connected Done
        → ((w : ℕ) → Done w → ((who : Worker) × (slice_get (workers_in setup.job) w ≡ Some who)) × IsRestored begin setup rows (map trimmed journals) other w)
        → (w : ℕ) → Done w → slice_get other w ≡ slice_get journals w
    restored_same other Done closed h w d =
        let here = h w d in
        same_journals begin setup connected rows other journals Done closed
        (λ v e. let q = h v e in conserved_by_restored other v q.0.0 q.0.1 q.1)
        (λ v e. let q = h v e in conserved_by_run begin setup rows journals states run v q.0.0 q.0.1)
        (λ v e.
        let q = h v e in
        ap (option_map trimmed) q.1.there ∙ (sym q.1.kept_there ∙ slice_get-map trimmed journals v))
        w here.0.0 here.0.1 d

    marks_plans : (w : ℕ) (who : Worker) (l : Left begin setup rows journals states run w who) → MarksPlans setup l.journal
    marks_plans w who l n r i =
        some_plan setup r who.node (due_covers setup begin.turned who.node r (
        marked_is_due (duties setup begin.turned who) (initial (duties setup begin.turned who)) l.journal n r l.worked.finished.lawful.execution i))

    pub no_bad_law : (w : ℕ) → HasBadLaw begin setup rows (map trimmed journals) w → ⊥
    no_bad_law w h = h.unfinished (checked.finished w h.who h.journal h.works h.there)

    pub no_bad_state : (w : ℕ) → HasBadState begin setup rows (map trimmed journals) (map entries states) w → ⊥
    no_bad_state w h =
        let same : slice_get h.journals w ≡ slice_get journals w =
        restored_same h.journals (λ v. (who : Worker) × (slice_get (workers_in setup.job) v ≡ Some who)) (λ w s who sender p q lt d. (sender, q)) (λ v d. (d, h.restored v d.0 d.1)) w (h.who, h.works) in
        h.differ (slice_get-map entries states w ∙ ap (option_map entries) (checked.states_are w h.who h.counts h.journal h.works h.begins (sym same ∙ h.there)))

    pub no_bad_lane : (order : List ℕ) → ((a b : ℕ) → connected.rank a < connected.rank b → place_of order a < place_of order b)
        → (n : ℕ) → HasBadLane begin setup order rows (map trimmed journals) n → ⊥
    no_bad_lane order up n h =
        let same : (s : ℕ) (sender : Worker) → slice_get (workers_in setup.job) s ≡ Some sender → ComesBefore order sender h.who → slice_get h.journals s ≡ slice_get journals s =
        λ s sender p before. restored_same h.journals (λ v. (q : Worker) × (slice_get (workers_in setup.job) v ≡ Some q) × ComesBefore order q h.who) closed
        (λ v d. ((d.0, d.1), h.restored v d.0 d.1 d.2)) s (sender, p, before) in
        let brings : delivered begin setup rows h.journals h.lane ≡ delivered begin setup rows journals h.lane =
        brings_same begin setup connected rows h.journals journals n h.lane h.who h.lane_is h.receives (λ s sender p lt. same s sender p (inl (up sender.node h.who.node lt))) in
        let l : Left begin setup rows journals states run h.lane.receiver h.who = left_of begin setup rows journals states run h.lane.receiver h.who h.receives in
        let t : IsConservedAt begin setup rows journals h.lane.receiver = conserved_by_run begin setup rows journals states run h.lane.receiver h.who h.receives in
        let j : t.journal ≡ l.journal = same_Some t.journal l.journal (sym t.there ∙ l.journal_there) in
        let items : h.items ≡ shown setup n l.journal =
        same_Some h.items (shown setup n l.journal) (sym h.brings ∙ (brings ∙ (t.conserved n h.lane h.lane_is refl ∙ ap (λ x. Some (shown setup n x)) j))) in
        let kept : trimmed l.journal ≡ h.journal =
        same_Some (trimmed l.journal) h.journal (sym (slice_get-map trimmed journals h.lane.receiver ∙ ap (option_map trimmed) l.journal_there) ∙ h.there) in
        h.differ (subst (λ x. AreItems n x h.journal) (sym items) (subst (AreItems n (shown setup n l.journal)) kept (seen_shown setup n l.journal (marks_plans h.lane.receiver h.who l))))
      where
        closed : IsClosed setup connected (λ v. (q : Worker) × (slice_get (workers_in setup.job) v ≡ Some q) × ComesBefore order q h.who)
        closed w s who sender p q lt (one, there, before) =
            let e : who ≡ one = same_Some who one (sym p ∙ there) in
            (sender, q, inl (earlier before (subst (λ (x : Worker). place_of order sender.node < place_of order x.node) e (up sender.node who.node lt))))
          where
            earlier : ComesBefore order one h.who → place_of order sender.node < place_of order one.node → place_of order sender.node < place_of order h.who.node
            earlier (inl lt) a = omega arith
            earlier (inr (node, number)) a = subst (λ v. place_of order sender.node < place_of order v) node a

-- ---- by the types of a setup and of rows

pub order_below : (job : JobView) (dag : DagView) → dag.nodes ≡ length job.nodes → (node : ℕ) → node < length job.nodes → place_of dag.order node < length job.nodes
order_below job dag nodes node lt = let k = place_of-below (HasEdge dag.edges) dag.nodes dag.order dag.lawful.ordered node (omega arith) in omega (arith, k)

pub order_forward : (job : JobView) (dag : DagView) → IsConnected job → dag.edges ≡ job.edges → dag.nodes ≡ length job.nodes → (i : ℕ) (edge : Edge) → slice_get job.edges i ≡ Some edge
    → place_of dag.order edge.from < place_of dag.order edge.to
order_forward job dag connected edges nodes i edge g =
    let inside = connected.ends i edge g in
    place_of-forward (HasEdge dag.edges) dag.nodes dag.order dag.lawful.ordered edge.from edge.to (omega (arith, inside.0)) (omega (arith, inside.1)) (
    subst (λ (es : List Edge). HasEdge es edge.from edge.to) (sym edges) (HasEdge-at job.edges i edge g))

pub no_fault : (begin : Begin) (setup : SetupView) (dag : DagView) (connected : IsConnected setup.job) → dag.edges ≡ setup.job.edges → dag.nodes ≡ length setup.job.nodes → (rows : List Row) → AreRows rows
    → (journals : List (List Entry)) (states : List Counts) → IsRunFrom begin rows (ran_as setup (feed_of begin setup rows) journals states)
    → (f : AuditFault) → (f ≡ fault.NoMemory → ⊥) → IsFaultOfWorkers begin setup dag.order rows (map trimmed journals) (map entries states) f → ⊥
no_fault begin setup dag connected edges nodes rows are journals states run (fault.Shape i) some h = h
no_fault begin setup dag connected edges nodes rows are journals states run (fault.Refused i) some h = h
no_fault begin setup dag connected edges nodes rows are journals states run (fault.Feed i) some h = h
no_fault begin setup dag connected edges nodes rows are journals states run (fault.Law w) some h = no_bad_law begin setup connected rows are journals states run w h
no_fault begin setup dag connected edges nodes rows are journals states run (fault.Lane n) some h =
    let by_order : IsConnected setup.job = in_order setup.job connected dag.order (order_below setup.job dag nodes) (order_forward setup.job dag connected edges nodes) in
    no_bad_lane begin setup by_order rows are journals states run dag.order (λ a b lt. lt) n h.1
no_fault begin setup dag connected edges nodes rows are journals states run (fault.State w) some h = no_bad_state begin setup connected rows are journals states run w h.1
no_fault begin setup dag connected edges nodes rows are journals states run fault.NoMemory some h = some refl
