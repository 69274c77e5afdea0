-- Runs whose journals are the same once trimmed are the same.
use Rattle.std.proofs.Common.{◌≡◌, ◌∙◌, ◌<◌, ℕ, suc, List, [], ◌∷◌, refl, sym, ap, ap₂, subst, arith, length, map, Some, None, Option, slice_get, option_map}
use Rattle.std.proofs.lemmas.Option.{same_Some, slice_get-map, slice_get_within}
use Rattle.keyed_state.specs.Counts.{Counts}
use Rattle.sink_journal.specs.declared.journal.Entry.{Entry}
use Rattle.sink_journal.specs.declared.journal.Feed.{Feed}
use Rattle.tuple_trace.specs.declared.row.Row.{Row}
use Rattle.flow_model.specs.Begin.{Begin}
use Rattle.flow_model.specs.Lanes.{lanes_in}
use Rattle.flow_model.specs.Law.{initial}
use Rattle.flow_model.specs.SetupView.{SetupView, Worker}
use Rattle.flow_model.specs.declared.topology.Lane.{Lane}
use Rattle.flow_model.specs.Run.{IsRunSince, IsRunFrom, IsWorked, Ran, final_counts, put_by, ran_as}
use Rattle.flow_model.specs.Duties.{duties}
use Rattle.flow_model.specs.Workers.{workers_in}
use Rattle.flow_model.proofs.JobLemmas.{IsConnected}
use Rattle.flow_model.proofs.MarkerLemmas.{met_on_lane}
use Rattle.flow_model.proofs.WorkerLemmas.{item_at, worker_with}
use Rattle.audit_laws.specs.declared.audit.AuditEntry.{AuditEntry}
use Rattle.audit_laws.specs.Delivered.{feed_of}
use Rattle.audit_laws.specs.Trimmed.{trimmed}
use Rattle.audit_laws.proofs.TrimLemmas.{MetOn}
use Rattle.audit_laws.proofs.ConservedLemmas.{IsConservedAt, same_journals}

-- two lists are the same whose items are, place by place
pub same_list : {A : Type 0} (xs ys : List A) → length xs ≡ length ys → ((k : ℕ) → k < length xs → slice_get xs k ≡ slice_get ys k) → xs ≡ ys
same_list [] [] e h = refl
same_list [] (y ∷ ys) e h = absurd (omega (arith, e))
same_list (x ∷ xs) [] e h = absurd (omega (arith, e))
same_list {A} (x ∷ xs) (y ∷ ys) e h =
    let first : x ≡ y = same_Some x y (h 0 (omega arith)) in
    ap₂ (λ (z : A) (zs : List A). z ∷ zs) first (same_list xs ys (omega (arith, e)) (λ k lt. h (suc k) (omega (arith, lt))))

-- what is put on a lane doesn't depend on the counts at the end
pub put_by-states : (begin : Begin) (setup : SetupView) (rows : List Row) (journals : List (List Entry)) (states : List Counts) (lane : Lane) (o : Option ℕ)
    → put_by begin rows (ran_as setup (feed_of begin setup rows) journals states) lane o ≡ put_by begin rows (ran_as setup (feed_of begin setup rows) journals []) lane o
put_by-states begin setup rows journals states lane None = refl
put_by-states begin setup rows journals states lane (Some s) = refl

module _ (begin : Begin) (setup : SetupView) (rows : List Row) (journals : List (List Entry)) (states : List Counts)
    (run : IsRunFrom begin rows (ran_as setup (feed_of begin setup rows) journals states))
  where
    -- what a run begins with at a worker, and what it leaves of it
    pub record Left (w : ℕ) (who : Worker) : Type 0 where
      pub counts : Counts
      pub begins : slice_get begin.states w ≡ Some counts
      pub journal : List Entry
      pub journal_there : slice_get journals w ≡ Some journal
      pub state : Counts
      pub state_there : slice_get states w ≡ Some state
      pub worked : IsWorked setup begin who counts journal state

    pub left_of : (w : ℕ) (who : Worker) → slice_get (workers_in setup.job) w ≡ Some who → Left w who
    left_of w who p =
        let lt : w < length (workers_in setup.job) = slice_get_within (workers_in setup.job) w who p in
        let c = item_at begin.states w (omega (arith, lt, run.one_start_each)) in
        let j = item_at journals w (omega (arith, lt, run.one_journal_each)) in
        let s = item_at states w (omega (arith, lt, run.one_state_each)) in
        record {
          counts = c.0;
          begins = c.1;
          journal = j.0;
          journal_there = j.1;
          state = s.0;
          state_there = s.1;
          worked = run.worked w who c.0 j.0 s.0 p c.1 j.1 s.1;
        }

    pub conserved_by_run : (w : ℕ) (who : Worker) → slice_get (workers_in setup.job) w ≡ Some who → IsConservedAt begin setup rows journals w
    conserved_by_run w who p =
        let l : Left w who = left_of w who p in
        let number : who.number ≡ w = (worker_with setup.job w who p).0 in
        record {
          journal = l.journal;
          there = l.journal_there;
          met = subst (λ v. MetOn (lanes_in setup.job v) l.journal) number
              (λ n t i. met_on_lane (duties setup begin.turned who) (initial (duties setup begin.turned who)) l.journal n t l.worked.finished.lawful.execution i);
          conserved = λ n lane g r.
              sym (put_by-states begin setup rows journals states lane lane.sender)
              ∙ run.conserved n lane l.journal g (subst (λ v. slice_get journals v ≡ Some l.journal) (sym r) l.journal_there);
        }

-- a worker's trimmed journal, by its number
trimmed_there : (A B : List (List Entry)) (w : ℕ) → map trimmed A ≡ map trimmed B → option_map trimmed (slice_get A w) ≡ option_map trimmed (slice_get B w)
trimmed_there A B w e = sym (slice_get-map trimmed A w) ∙ (ap (λ (l : List (List AuditEntry)). slice_get l w) e ∙ slice_get-map trimmed B w)

pub length_trimmed : (A : List (List Entry)) → length (map trimmed A) ≡ length A
length_trimmed [] = refl
length_trimmed (j ∷ A) = ap suc (length_trimmed A)

module _ (begin : Begin) (setup : SetupView) (connected : IsConnected setup.job) (rows : List Row) (A B : List (List Entry)) (S T : List Counts)
    (a : IsRunFrom begin rows (ran_as setup (feed_of begin setup rows) A S)) (b : IsRunFrom begin rows (ran_as setup (feed_of begin setup rows) B T)) (same : map trimmed A ≡ map trimmed B)
  where
    abbrev IsThere : ℕ → Type 0
    IsThere w = (who : Worker) × (slice_get (workers_in setup.job) w ≡ Some who)

    by_worker : (w : ℕ) (who : Worker) → slice_get (workers_in setup.job) w ≡ Some who → slice_get A w ≡ slice_get B w
    by_worker w who p =
        same_journals begin setup connected rows A B IsThere (λ w s who sender p there lt d. (sender, there))
        (λ w d. conserved_by_run begin setup rows A S a w d.0 d.1) (λ w d. conserved_by_run begin setup rows B T b w d.0 d.1)
        (λ w d. trimmed_there A B w same) w who p (who, p)

    one_journals : A ≡ B
    one_journals =
        same_list A B (sym (length_trimmed A) ∙ (ap length same ∙ length_trimmed B))
        (λ w lt. let p = item_at (workers_in setup.job) w (omega (arith, lt, a.one_journal_each)) in by_worker w p.0 p.1)

    one_states : S ≡ T
    one_states =
        same_list S T (a.one_state_each ∙ sym b.one_state_each) (λ w lt.
        let p = item_at (workers_in setup.job) w (omega (arith, lt, a.one_state_each)) in
        let x : Left begin setup rows A S a w p.0 = left_of begin setup rows A S a w p.0 p.1 in
        let y : Left begin setup rows B T b w p.0 = left_of begin setup rows B T b w p.0 p.1 in
        let j : x.journal ≡ y.journal = same_Some x.journal y.journal (sym x.journal_there ∙ (by_worker w p.0 p.1 ∙ y.journal_there)) in
        let c : x.counts ≡ y.counts = same_Some x.counts y.counts (sym x.begins ∙ y.begins) in
        let s : x.state ≡ y.state = x.worked.state_is ∙ (ap₂ (final_counts setup begin p.0) c j ∙ sym y.worked.state_is) in
        x.state_there ∙ (ap Some s ∙ sym y.state_there))

-- a run is that of its parts
parts : (setup : SetupView) (ran : Ran) → ran.setup ≡ setup → ran ≡ ran_as setup ran.feeds ran.journals ran.states
parts setup ran e = λ i. record { setup = e i; feeds = ran.feeds; journals = ran.journals; states = ran.states }

pub by_parts : (begin : Begin) (setup : SetupView) (rows : List Row) (ran : Ran) → IsRunSince begin setup rows ran
    → (ran ≡ ran_as setup (feed_of begin setup rows) ran.journals ran.states) × IsRunFrom begin rows (ran_as setup (feed_of begin setup rows) ran.journals ran.states)
by_parts begin setup rows ran is =
    let e : ran ≡ ran_as setup ran.feeds ran.journals ran.states = parts setup ran is.setup_is in
    let r : IsRunFrom begin rows (ran_as setup ran.feeds ran.journals ran.states) = subst (IsRunFrom begin rows) e is.run in
    let f : ran_as setup ran.feeds ran.journals ran.states ≡ ran_as setup (feed_of begin setup rows) ran.journals ran.states =
    ap (λ (feeds : List Feed). ran_as setup feeds ran.journals ran.states) r.feed in
    (e ∙ f, subst (IsRunFrom begin rows) f r)

pub one_run : (begin : Begin) (setup : SetupView) → IsConnected setup.job → (rows : List Row) (a b : Ran) → IsRunSince begin setup rows a → IsRunSince begin setup rows b → map trimmed a.journals ≡ map trimmed b.journals → a ≡ b
one_run begin setup connected rows a b x y same =
    let p = by_parts begin setup rows a x in
    let q = by_parts begin setup rows b y in
    let j : a.journals ≡ b.journals = one_journals begin setup connected rows a.journals b.journals a.states b.states p.1 q.1 same in
    let s : a.states ≡ b.states = one_states begin setup connected rows a.journals b.journals a.states b.states p.1 q.1 same in
    p.0 ∙ (ap₂ (λ (journals : List (List Entry)) (states : List Counts). ran_as setup (feed_of begin setup rows) journals states) j s ∙ sym q.0)
