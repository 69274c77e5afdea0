-- An audit has one fault at most.
use Rattle.std.proofs.Common.{◌≡◌, ◌∙◌, ◌<◌, ◌≤◌, ℕ, List, ◌⊎◌, inl, inr, refl, sym, ap, subst, arith, length, get_or, Some, slice_get, option_map}
use Rattle.std.proofs.lemmas.Bool.{cases_lt}
use Rattle.std.proofs.lemmas.Option.{same_Some, slice_get_within}
use Rattle.flow_dag.specs.Dag.{DagView}
use Rattle.flow_dag.specs.Edges.{HasEdge}
use Rattle.flow_dag.specs.Order.{place_of}
use Rattle.flow_dag.proofs.PlaceLemmas.{get_or-place_of}
use Rattle.sink_journal.specs.declared.journal.Entry.{Entry}
use Rattle.sink_journal.specs.declared.journal.Entry.TheVariants as entry
use Rattle.tuple_trace.specs.declared.row.Row.{Row}
use Rattle.flow_model.specs.Begin.{Begin}
use Rattle.flow_model.specs.Lanes.{lanes_in}
use Rattle.flow_model.specs.Law.{initial}
use Rattle.flow_model.specs.SetupView.{SetupView, Worker}
use Rattle.flow_model.specs.Replay.{shown}
use Rattle.flow_model.specs.Duties.{duties}
use Rattle.flow_model.specs.Workers.{workers_in}
use Rattle.flow_model.proofs.ElementLemmas.{map_in}
use Rattle.flow_model.proofs.JobLemmas.{IsConnected}
use Rattle.flow_model.proofs.PlannedLemmas.{due_covers}
use Rattle.flow_model.proofs.WorkerLemmas.{worker_with}
use Rattle.audit_laws.specs.declared.audit.AuditEntry.{AuditEntry}
use Rattle.audit_fault.specs.declared.fault.AuditFault.{AuditFault}
use Rattle.audit_fault.specs.declared.fault.AuditFault.TheVariants as fault
use Rattle.audit_laws.specs.Delivered.{delivered, feed_of}
use Rattle.audit_laws.specs.Drafted.{draft, drafted}
use Rattle.audit_laws.specs.Faults.{AreTrimmedFinished, AreItems, ComesBefore, HasBadLane, HasBadLaw, HasBadState, IsFaultOfWorkers, IsRestored, Listed}
use Rattle.audit_laws.specs.Trimmed.{trim, trimmed}
use Rattle.audit_laws.proofs.CheckedLemmas.{met_by_draft}
use Rattle.audit_laws.proofs.FaultLemmas.{brings_same, in_order, order_below, order_forward}
use Rattle.flow_model.proofs.AgreementLemmas.{some_plan}
use Rattle.audit_laws.proofs.SeenLemmas.{MarksPlans, marked_is_due, seen_shown}
use Rattle.audit_laws.proofs.ConservedLemmas.{IsClosed, IsConservedAt, same_journals}
use Rattle.audit_laws.proofs.TrimLemmas.{MetOn}

-- ---- the order of workers

before_trans : (order : List ℕ) (a b c : Worker) → ComesBefore order a b → ComesBefore order b c → ComesBefore order a c
before_trans order a b c (inl x) (inl y) = inl (omega arith)
before_trans order a b c (inl x) (inr (node, y)) = inl (subst (λ v. place_of order a.node < place_of order v) node x)
before_trans order a b c (inr (node, x)) (inl y) = inl (subst (λ v. place_of order v < place_of order c.node) (sym node) y)
before_trans order a b c (inr (node, x)) (inr (other, y)) = inr (node ∙ other, omega arith)

module _ (begin : Begin) (setup : SetupView) (order : List ℕ) (connected : IsConnected setup.job) (up : (a b : ℕ) → connected.rank a < connected.rank b → place_of order a < place_of order b)
    (one_place : (a b : Worker) (v w : ℕ) → slice_get (workers_in setup.job) v ≡ Some a → slice_get (workers_in setup.job) w ≡ Some b → place_of order a.node ≡ place_of order b.node → a.node ≡ b.node)
    (rows : List Row) (audit : List (List AuditEntry)) (finished : AreTrimmedFinished begin setup rows audit)
  where
    conserved : (journals : List (List Entry)) (w : ℕ) (who : Worker) → slice_get (workers_in setup.job) w ≡ Some who → IsRestored begin setup rows audit journals w → IsConservedAt begin setup rows journals w
    conserved journals w who p r = record {
      journal = r.journal;
      there = r.there;
      met = subst (λ v. MetOn (lanes_in setup.job v) r.journal) (worker_with setup.job w who p).0 (met_by_draft begin setup rows who r.journal (finished w who (trimmed r.journal) p r.kept_there));
      conserved = r.shows;
    }

    marks_plans : (journals : List (List Entry)) (w : ℕ) (who : Worker) → slice_get (workers_in setup.job) w ≡ Some who → (r : IsRestored begin setup rows audit journals w) → MarksPlans setup r.journal
    marks_plans journals w who p r n q i =
        some_plan setup q who.node (due_covers setup begin.turned who.node q (
        marked_is_due (duties setup begin.turned who) (initial (duties setup begin.turned who)) (drafted begin.turned (feed_of begin setup rows) (trimmed r.journal)) n q
        (finished w who (trimmed r.journal) p r.kept_there).lawful.execution
        (map_in (draft begin.turned (feed_of begin setup rows)) (trim (entry.Marked n q)) (trimmed r.journal) (map_in trim (entry.Marked n q) r.journal i))))

    -- two restored journals are the same
    same : (A B : List (List Entry)) (Done : ℕ → Type 0) → IsClosed setup connected Done
        → ((w : ℕ) → Done w → ((who : Worker) × (slice_get (workers_in setup.job) w ≡ Some who)) × IsRestored begin setup rows audit A w × IsRestored begin setup rows audit B w)
        → (w : ℕ) → Done w → slice_get A w ≡ slice_get B w
    same A B Done closed h w d =
        let here = h w d in
        same_journals begin setup connected rows A B Done closed
        (λ v e. let q = h v e in conserved A v q.0.0 q.0.1 q.1)
        (λ v e. let q = h v e in conserved B v q.0.0 q.0.1 q.2)
        (λ v e. let q = h v e in ap (option_map trimmed) q.1.there ∙ (sym q.1.kept_there ∙ (q.2.kept_there ∙ sym (ap (option_map trimmed) q.2.there))))
        w here.0.0 here.0.1 d

    -- the workers before one
    abbrev EarlierThan : Worker → ℕ → Type 0
    EarlierThan who v = (q : Worker) × (slice_get (workers_in setup.job) v ≡ Some q) × ComesBefore order q who

    earlier_closed : (who : Worker) → IsClosed setup connected (EarlierThan who)
    earlier_closed who w s here sender p q lt (one, there, before) =
        let e : here ≡ one = same_Some here one (sym p ∙ there) in
        (sender, q, before_trans order sender one who (inl (subst (λ (x : Worker). place_of order sender.node < place_of order x.node) e (up sender.node here.node lt))) before)

    -- the journals that are restored before a bad lane bring it what any others do
    same_brings : (n : ℕ) (h : HasBadLane begin setup order rows audit n) (B : List (List Entry))
        → ((w : ℕ) (p : Worker) → slice_get (workers_in setup.job) w ≡ Some p → ComesBefore order p h.who → IsRestored begin setup rows audit B w)
        → delivered begin setup rows h.journals h.lane ≡ delivered begin setup rows B h.lane
    same_brings n h B others =
        brings_same begin setup connected rows h.journals B n h.lane h.who h.lane_is h.receives
        (λ s sender p lt. same h.journals B (EarlierThan h.who) (earlier_closed h.who) (λ v d. ((d.0, d.1), h.restored v d.0 d.1 d.2, others v d.0 d.1 d.2)) s
        (sender, p, inl (up sender.node h.who.node lt)))

    -- no restored journal is that of a bad lane's receiver
    not_restored : (n : ℕ) (h : HasBadLane begin setup order rows audit n) (B : List (List Entry))
        → ((w : ℕ) (p : Worker) → slice_get (workers_in setup.job) w ≡ Some p → ComesBefore order p h.who → IsRestored begin setup rows audit B w)
        → IsRestored begin setup rows audit B h.lane.receiver → ⊥
    not_restored n h B others r =
        let items : h.items ≡ shown setup n r.journal =
        same_Some h.items (shown setup n r.journal) (sym h.brings ∙ (same_brings n h B others ∙ r.shows n h.lane h.lane_is refl)) in
        let kept : trimmed r.journal ≡ h.journal = same_Some (trimmed r.journal) h.journal (sym r.kept_there ∙ h.there) in
        h.differ (subst (λ x. AreItems n x h.journal) (sym items) (subst (AreItems n (shown setup n r.journal)) kept (seen_shown setup n r.journal (marks_plans B h.lane.receiver h.who h.receives r))))

    -- of two bad lanes into one worker none comes first
    not_first : (n m : ℕ) (h : HasBadLane begin setup order rows audit n) (k : HasBadLane begin setup order rows audit m) → h.lane.receiver ≡ k.lane.receiver → n < m → ⊥
    not_first n m h k e lt =
        let one : h.who ≡ k.who = same_Some h.who k.who (sym h.receives ∙ subst (λ v. slice_get (workers_in setup.job) v ≡ Some k.who) (sym e) k.receives) in
        let brings : delivered begin setup rows k.journals h.lane ≡ Some h.items =
        sym (same_brings n h k.journals (λ w p g before. k.restored w p g (subst (ComesBefore order p) one before))) ∙ h.brings in
        h.differ (k.least n h.lane lt h.lane_is e h.items h.journal brings h.there)

    -- of two workers one comes before the other, or they are one
    compare : (a b : Worker) (v w : ℕ) → slice_get (workers_in setup.job) v ≡ Some a → slice_get (workers_in setup.job) w ≡ Some b → ComesBefore order a b ⊎ (ComesBefore order b a ⊎ (v ≡ w))
    compare a b v w p q =
        elim (cases_lt (place_of order a.node) (place_of order b.node)) [
          | inl lt ↦ inl (inl lt)
          | inr ge ↦
              elim (cases_lt (place_of order b.node) (place_of order a.node)) [
                | inl lt ↦ inr (inl (inl lt))
                | inr le ↦ by_number (one_place a b v w p q (omega arith)) (cases_lt a.number b.number) (cases_lt b.number a.number)
              ]
        ]
      where
        by_number : a.node ≡ b.node → (a.number < b.number) ⊎ (b.number ≤ a.number) → (b.number < a.number) ⊎ (a.number ≤ b.number) → ComesBefore order a b ⊎ (ComesBefore order b a ⊎ (v ≡ w))
        by_number node (inl lt) o = inl (inr (node, lt))
        by_number node (inr ge) (inl lt) = inr (inl (inr (sym node, lt)))
        by_number node (inr ge) (inr le) =
            let x = (worker_with setup.job v a p).0 in
            let y = (worker_with setup.job w b q).0 in
            inr (inr (omega arith))

    pub one_lane : (n m : ℕ) → HasBadLane begin setup order rows audit n → HasBadLane begin setup order rows audit m → n ≡ m
    one_lane n m h k = go (compare h.who k.who h.lane.receiver k.lane.receiver h.receives k.receives)
      where
        go : ComesBefore order h.who k.who ⊎ (ComesBefore order k.who h.who ⊎ (h.lane.receiver ≡ k.lane.receiver)) → n ≡ m
        go (inl first) = absurd (not_restored n h k.journals (λ w p g before. k.restored w p g (before_trans order p h.who k.who before first)) (k.restored h.lane.receiver h.who h.receives first))
        go (inr (inl first)) =
            absurd (not_restored m k h.journals (λ w p g before. h.restored w p g (before_trans order p k.who h.who before first)) (h.restored k.lane.receiver k.who k.receives first))
        go (inr (inr e)) =
            elim (cases_lt n m) [
              | inl lt ↦ absurd (not_first n m h k e lt)
              | inr ge ↦ elim (cases_lt m n) [ inl lt ↦ absurd (not_first m n k h (sym e) lt) | inr le ↦ omega arith ]
            ]

    -- a bad lane leaves a journal that isn't restored, and no bad state
    pub lane_or_restored : (journals : List (List Entry)) (n : ℕ) → HasBadLane begin setup order rows audit n
        → ((v : ℕ) (p : Worker) → slice_get (workers_in setup.job) v ≡ Some p → IsRestored begin setup rows audit journals v) → ⊥
    lane_or_restored journals n h k = not_restored n h journals (λ v p g before. k v p g) (k h.lane.receiver h.who h.receives)

    pub lane_or_state : (states : List Listed) (n w : ℕ) → HasBadLane begin setup order rows audit n → HasBadState begin setup rows audit states w → ⊥
    lane_or_state states n w h k = lane_or_restored k.journals n h k.restored

    not_first_state : (states : List Listed) (v w : ℕ) → HasBadState begin setup rows audit states v → HasBadState begin setup rows audit states w → v < w → ⊥
    not_first_state states v w h k lt =
        let e : slice_get h.journals v ≡ slice_get k.journals v =
        same h.journals k.journals (λ u. (who : Worker) × (slice_get (workers_in setup.job) u ≡ Some who)) (λ w s who sender p q lt d. (sender, q))
        (λ u d. (d, h.restored u d.0 d.1, k.restored u d.0 d.1)) v (h.who, h.works) in
        h.differ (k.least v h.who h.counts h.journal lt h.works h.begins (sym e ∙ h.there))

    pub one_state : (states : List Listed) (v w : ℕ) → HasBadState begin setup rows audit states v → HasBadState begin setup rows audit states w → v ≡ w
    one_state states v w h k =
        elim (cases_lt v w) [
          | inl lt ↦ absurd (not_first_state states v w h k lt)
          | inr ge ↦ elim (cases_lt w v) [ inl lt ↦ absurd (not_first_state states w v k h lt) | inr le ↦ omega arith ]
        ]

-- of two workers whose journals aren't finished the first is named
pub one_law : (begin : Begin) (setup : SetupView) (rows : List Row) (audit : List (List AuditEntry)) (v w : ℕ) → HasBadLaw begin setup rows audit v → HasBadLaw begin setup rows audit w → v ≡ w
one_law begin setup rows audit v w h k =
    elim (cases_lt v w) [
      | inl lt ↦ absurd (h.unfinished (k.least v h.who h.journal lt h.works h.there))
      | inr ge ↦ elim (cases_lt w v) [ inl lt ↦ absurd (k.unfinished (h.least w k.who k.journal lt k.works k.there)) | inr le ↦ omega arith ]
    ]

pub law_or_more : (begin : Begin) (setup : SetupView) (rows : List Row) (audit : List (List AuditEntry)) (w : ℕ) → HasBadLaw begin setup rows audit w → AreTrimmedFinished begin setup rows audit → ⊥
law_or_more begin setup rows audit w h finished = h.unfinished (finished w h.who h.journal h.works h.there)

-- ---- by the types of a setup and of rows

-- nodes of one place are one
one_place_of : (setup : SetupView) (dag : DagView) → dag.nodes ≡ length setup.job.nodes → (a b : Worker) (v w : ℕ) → slice_get (workers_in setup.job) v ≡ Some a → slice_get (workers_in setup.job) w ≡ Some b
    → place_of dag.order a.node ≡ place_of dag.order b.node → a.node ≡ b.node
one_place_of setup dag nodes a b v w p q e =
    let x = (worker_with setup.job v a p).1 in
    let y = (worker_with setup.job w b q).1 in
    let i = slice_get_within setup.job.nodes a.node x.def x.node_is in
    let j = slice_get_within setup.job.nodes b.node y.def y.node_is in
    sym (get_or-place_of (HasEdge dag.edges) dag.nodes dag.order dag.lawful.ordered a.node (omega arith))
    ∙ (ap (λ k. get_or dag.order k 0) e ∙ get_or-place_of (HasEdge dag.edges) dag.nodes dag.order dag.lawful.ordered b.node (omega arith))

module _ (begin : Begin) (setup : SetupView) (dag : DagView) (connected : IsConnected setup.job) (edges : dag.edges ≡ setup.job.edges) (nodes : dag.nodes ≡ length setup.job.nodes) (rows : List Row)
    (audit : List (List AuditEntry)) (states : List Listed)
  where
    -- the job, its nodes ranked by their places
    abbrev by_order : IsConnected setup.job
    by_order = in_order setup.job connected dag.order (order_below setup.job dag nodes) (order_forward setup.job dag connected edges nodes)

    abbrev IsFault : AuditFault → Type 0
    IsFault f = IsFaultOfWorkers begin setup dag.order rows audit states f

    -- all journals are restored, so no lane is bad
    pub lane_or_all : (journals : List (List Entry)) (n : ℕ) → AreTrimmedFinished begin setup rows audit → HasBadLane begin setup dag.order rows audit n
        → ((v : ℕ) (p : Worker) → slice_get (workers_in setup.job) v ≡ Some p → IsRestored begin setup rows audit journals v) → ⊥
    lane_or_all journals n f h k = lane_or_restored begin setup dag.order by_order (λ a b lt. lt) (one_place_of setup dag nodes) rows audit f journals n h k

    law_alone : (w : ℕ) (g : AuditFault) → (g ≡ fault.NoMemory → ⊥) → HasBadLaw begin setup rows audit w → IsFault g → fault.Law w ≡ g
    law_alone w (fault.Shape i) some h k = absurd k
    law_alone w (fault.Refused i) some h k = absurd k
    law_alone w (fault.Feed i) some h k = absurd k
    law_alone w (fault.Law v) some h k = ap fault.Law (one_law begin setup rows audit w v h k)
    law_alone w (fault.Lane n) some h k = absurd (law_or_more begin setup rows audit w h k.0)
    law_alone w (fault.State v) some h k = absurd (law_or_more begin setup rows audit w h k.0)
    law_alone w fault.NoMemory some h k = absurd (some refl)

    lane_alone : (n : ℕ) (g : AuditFault) → (g ≡ fault.NoMemory → ⊥) → AreTrimmedFinished begin setup rows audit → HasBadLane begin setup dag.order rows audit n → IsFault g → fault.Lane n ≡ g
    lane_alone n (fault.Shape i) some f h k = absurd k
    lane_alone n (fault.Refused i) some f h k = absurd k
    lane_alone n (fault.Feed i) some f h k = absurd k
    lane_alone n (fault.Law v) some f h k = absurd (law_or_more begin setup rows audit v k f)
    lane_alone n (fault.Lane m) some f h k = ap fault.Lane (one_lane begin setup dag.order by_order (λ a b lt. lt) (one_place_of setup dag nodes) rows audit f n m h k.1)
    lane_alone n (fault.State v) some f h k = absurd (lane_or_state begin setup dag.order by_order (λ a b lt. lt) (one_place_of setup dag nodes) rows audit f states n v h k.1)
    lane_alone n fault.NoMemory some f h k = absurd (some refl)

    state_alone : (w : ℕ) (g : AuditFault) → (g ≡ fault.NoMemory → ⊥) → AreTrimmedFinished begin setup rows audit → HasBadState begin setup rows audit states w → IsFault g → fault.State w ≡ g
    state_alone w (fault.Shape i) some f h k = absurd k
    state_alone w (fault.Refused i) some f h k = absurd k
    state_alone w (fault.Feed i) some f h k = absurd k
    state_alone w (fault.Law v) some f h k = absurd (law_or_more begin setup rows audit v k f)
    state_alone w (fault.Lane m) some f h k = absurd (lane_or_state begin setup dag.order by_order (λ a b lt. lt) (one_place_of setup dag nodes) rows audit f states m w k.1 h)
    state_alone w (fault.State v) some f h k = ap fault.State (one_state begin setup dag.order by_order (λ a b lt. lt) (one_place_of setup dag nodes) rows audit f states w v h k.1)
    state_alone w fault.NoMemory some f h k = absurd (some refl)

    pub one_fault : (f g : AuditFault) → (f ≡ fault.NoMemory → ⊥) → (g ≡ fault.NoMemory → ⊥) → IsFault f → IsFault g → f ≡ g
    one_fault (fault.Shape i) g a b h k = absurd h
    one_fault (fault.Refused i) g a b h k = absurd h
    one_fault (fault.Feed i) g a b h k = absurd h
    one_fault (fault.Law w) g a b h k = law_alone w g b h k
    one_fault (fault.Lane n) g a b h k = lane_alone n g b h.0 h.1 k
    one_fault (fault.State w) g a b h k = state_alone w g b h.0 h.1 k
    one_fault fault.NoMemory g a b h k = absurd (a refl)
