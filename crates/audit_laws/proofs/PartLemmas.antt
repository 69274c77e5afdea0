-- The audit of a part, which tells no counts.
use Rattle.std.proofs.Common.{◌≡◌, ◌∙◌, ◌+◌, ◌++◌, ℕ, List, [], ◌∷◌, ◌⊎◌, inl, inr, refl, sym, ap, ap₂, subst, arith, length, map, filter_map}
use Rattle.std.specs.FinMap.{empty, entries}
use Rattle.std.proofs.lemmas.Bool.{cases_lt}
use Rattle.std.proofs.lemmas.List.{append-nil, length-map}
use Rattle.std.proofs.lemmas.List.Elements.{filter_map-append}
use Rattle.flow_dag.specs.Dag.{DagView}
use Rattle.jobs.specs.Law.{IsLawful}
use Rattle.keyed_state.specs.Counts.{Counts}
use Rattle.sink_journal.specs.declared.audit.Noted.{Noted}
use Rattle.sink_journal.specs.declared.journal.Entry.{Entry}
use Rattle.sink_journal.specs.declared.journal.Feed.{Feed}
use Rattle.tuple_trace.specs.Rows.{AreRows}
use Rattle.tuple_trace.specs.declared.row.Row.{Row}
use Rattle.flow_model.specs.Begin.{Begin}
use Rattle.flow_model.specs.SetupView.{SetupView, Worker}
use Rattle.flow_model.specs.Run.{IsRunSince, IsRunFrom, Ran, ran_as}
use Rattle.flow_model.specs.Workers.{workers_in}
use Rattle.flow_model.proofs.ElementLemmas.{IsIn, all_of_at, at_of_all, in_cases, in_left, in_right}
use Rattle.flow_model.proofs.JobLemmas.{IsConnected}
use Rattle.audit_laws.specs.declared.audit.AuditEntry.{AuditEntry}
use Rattle.audit_laws.specs.declared.audit.Line.{Line}
use Rattle.audit_laws.specs.declared.audit.Line.TheVariants as line
use Rattle.audit_fault.specs.declared.fault.AuditFault.{AuditFault}
use Rattle.audit_fault.specs.declared.fault.AuditFault.TheVariants as fault
use Rattle.audit_laws.specs.Delivered.{feed_of}
use Rattle.audit_laws.specs.Faults.{AreTrimmedFinished, Listed}
use Rattle.audit_laws.specs.Fits.{Fits, HasForm, kept_lines, csv_records}
use Rattle.audit_laws.specs.Lines.{IsLawfulLine, worker_count_in, counts_in, journal_in, lines_from, lines_of, worker_lines}
use Rattle.audit_laws.specs.Part.{AreRestorable, IsFirstCounted, IsPartFaultOf, uncounted}
use Rattle.audit_laws.specs.Trimmed.{trimmed}
use Rattle.audit_laws.specs.Verdict.{AreInShape, IsFirstFault, by_worker}
use Rattle.audit_laws.proofs.NamedLemmas.{are_told}
use Rattle.audit_laws.proofs.OneFaultLemmas.{lane_or_all, law_or_more}
use Rattle.audit_laws.proofs.OneVerdictLemmas.{feed_first, in_shape, one_verdict, refused_first}
use Rattle.audit_laws.proofs.RangeLemmas.{none_listed}
use Rattle.audit_laws.proofs.ShapeLemmas.{by_parts, keeps_none, one_reading}
use Rattle.audit_laws.proofs.VerdictLemmas.{no_fault_before, read, shape_of}

-- ---- no counts

-- nothing is counted at these workers, and nothing is listed
abbrev none_counted : List Worker → List Counts
none_counted workers = map (λ (who : Worker). empty) workers

abbrev nothing : List Worker → List Listed
nothing workers = map (λ (who : Worker). []) workers

none_told : (workers : List Worker) → map entries (none_counted workers) ≡ nothing workers
none_told [] = refl
none_told (who ∷ workers) = ap₂ (λ (x : Listed) (xs : List Listed). x ∷ xs) none_listed (none_told workers)

no_state : (k w : ℕ) (js : List (List AuditEntry)) (workers : List Worker) → filter_map (worker_count_in w) (lines_from k js (nothing workers)) ≡ []
no_state k w [] workers = refl
no_state k w (j ∷ js) [] = refl
no_state k w (j ∷ js) (who ∷ workers) =
    filter_map-append (worker_count_in w) (worker_lines k j []) (lines_from (k + 1) js (nothing workers))
    ∙ ap₂ (λ (x y : Listed). x ++ y)
    (ap (λ (ls : List Line). filter_map (worker_count_in w) ls) (append-nil (map (line.Step k) j)) ∙ keeps_none (worker_count_in w) (line.Step k) j (λ e. refl))
    (no_state (k + 1) w js workers)

-- lines without counts tell none
counts_untold : (r : List Noted) (f : List Feed) (js : List (List AuditEntry)) (workers : List Worker) (w : ℕ) → counts_in (lines_of r f js (map entries (none_counted workers))) w ≡ []
counts_untold r f js workers w =
    ap (λ (ss : List Listed). counts_in (lines_of r f js ss) w) (none_told workers)
    ∙ (by_parts r f js (nothing workers) (worker_count_in w)
    ∙ ap₂ (λ (x y : Listed). x ++ y) (keeps_none (worker_count_in w) line.Refused r (λ x. refl))
    (ap₂ (λ (x y : Listed). x ++ y) (keeps_none (worker_count_in w) line.Feed f (λ x. refl)) (no_state 0 w js workers)))

-- ---- the form of lines

-- lines without counts are among those with counts
fewer_lines : (k : ℕ) (js : List (List AuditEntry)) (ss : List Listed) (workers : List Worker) (y : Line) → length ss ≡ length js → IsIn y (lines_from k js (nothing workers)) → IsIn y (lines_from k js ss)
fewer_lines k [] ss workers y e i = absurd i
fewer_lines k (j ∷ js) [] workers y e i = absurd (omega (arith, e))
fewer_lines k (j ∷ js) (s ∷ ss) [] y e i = absurd i
fewer_lines k (j ∷ js) (s ∷ ss) (who ∷ workers) y e i =
    elim (in_cases y (worker_lines k j []) (lines_from (k + 1) js (nothing workers)) i) [
      | inl a ↦
          in_left y (worker_lines k j s) (lines_from (k + 1) js ss)
          (in_left y (map (line.Step k) j) (map (λ counted. line.State k counted.0 counted.1) s) (subst (λ (ls : List Line). IsIn y ls) (append-nil (map (line.Step k) j)) a))
      | inr b ↦ in_right y (worker_lines k j s) (lines_from (k + 1) js ss) (fewer_lines (k + 1) js ss workers y (omega (arith, e)) b)
    ]

fewer_kept : (refused : List Noted) (feeds : List Feed) (js : List (List AuditEntry)) (ss : List Listed) (workers : List Worker) (y : Line) → length ss ≡ length js
    → IsIn y (lines_of refused feeds js (nothing workers)) → IsIn y (lines_of refused feeds js ss)
fewer_kept refused feeds js ss workers y e i =
    elim (in_cases y (map line.Refused refused) (map line.Feed feeds ++ lines_from 0 js (nothing workers)) i) [
      | inl a ↦ in_left y (map line.Refused refused) (map line.Feed feeds ++ lines_from 0 js ss) a
      | inr b ↦
          in_right y (map line.Refused refused) (map line.Feed feeds ++ lines_from 0 js ss) (
          elim (in_cases y (map line.Feed feeds) (lines_from 0 js (nothing workers)) b) [
            | inl c ↦ in_left y (map line.Feed feeds) (lines_from 0 js ss) c
            | inr d ↦ in_right y (map line.Feed feeds) (lines_from 0 js ss) (fewer_lines 0 js ss workers y e d)
          ])
    ]

uncounted_form : (refused : List Noted) (ran : Ran) → length ran.journals ≡ length (workers_in ran.setup.job) → length ran.states ≡ length (workers_in ran.setup.job) → HasForm refused ran → HasForm refused (uncounted ran)
uncounted_form refused ran journals states form =
    all_of_at (IsLawfulLine ran.setup.job) (kept_lines refused (uncounted ran)) (λ y i.
    at_of_all (IsLawfulLine ran.setup.job) y (kept_lines refused ran) form (
    fewer_kept refused ran.feeds (map trimmed ran.journals) (map entries ran.states) (workers_in ran.setup.job) y
    (omega (arith, length-map ran.states entries, length-map ran.journals trimmed, journals, states))
    (subst (λ (ss : List Listed). IsIn y (lines_of refused ran.feeds (map trimmed ran.journals) ss)) (none_told (workers_in ran.setup.job)) i)))

-- as many counts as workers
pub length_uncounted : (ran : Ran) → length (uncounted ran).states ≡ length (workers_in ran.setup.job)
length_uncounted ran = length-map (workers_in ran.setup.job) (λ (who : Worker). empty)

-- the lines of a part that fits a text are in shape
pub part_shape : (begin : Begin) (setup : SetupView) (rows : List Row) (refused : List Noted) (text : List ℕ) (ran : Ran) → IsRunSince begin setup rows ran → Fits refused text (uncounted ran) → HasForm refused ran
    → AreInShape setup.job (csv_records text) (kept_lines refused (uncounted ran))
part_shape begin setup rows refused text ran is fits form =
    shape_of setup refused text (uncounted ran) is.setup_is is.run.one_journal_each (length_uncounted ran) fits (uncounted_form refused ran is.run.one_journal_each is.run.one_state_each form)

-- ---- a part that fits a text has no fault

module _ (begin : Begin) (setup : SetupView) (dag : DagView) (connected : IsConnected setup.job) (lawful : IsLawful setup.job) (edges : dag.edges ≡ setup.job.edges) (nodes : dag.nodes ≡ length setup.job.nodes)
    (rows : List Row) (are : AreRows rows) (refused : List Noted) (records : List (List (List ℕ))) (journals : List (List Entry)) (states : List Counts)
    (run : IsRunFrom begin rows (ran_as setup (feed_of begin setup rows) journals states))
    (shape : AreInShape setup.job records (lines_of refused (feed_of begin setup rows) (map trimmed journals) (map entries (none_counted (workers_in setup.job)))))
  where
    as_long : length (none_counted (workers_in setup.job)) ≡ length (workers_in setup.job)
    as_long = length-map (workers_in setup.job) (λ (who : Worker). empty)

    before : (f : AuditFault) → (f ≡ fault.NoMemory → ⊥) → ((w : ℕ) → f ≡ fault.State w → ⊥) → IsFirstFault begin setup dag.order refused rows records f → ⊥
    before = no_fault_before begin setup dag connected lawful edges nodes rows are refused records journals states run (none_counted (workers_in setup.job)) as_long shape

    pub no_part_fault : (f : AuditFault) → (f ≡ fault.NoMemory → ⊥) → IsPartFaultOf begin setup dag.order refused rows records f → ⊥
    no_part_fault (fault.Shape i) some h = before (fault.Shape i) some (λ w e. absurd (cc)) h
    no_part_fault (fault.Refused i) some h = before (fault.Refused i) some (λ w e. absurd (cc)) h
    no_part_fault (fault.Feed i) some h = before (fault.Feed i) some (λ w e. absurd (cc)) h
    no_part_fault (fault.Law v) some h = before (fault.Law v) some (λ w e. absurd (cc)) h
    no_part_fault (fault.Lane n) some h = before (fault.Lane n) some (λ w e. absurd (cc)) h
    no_part_fault (fault.State w) some h =
        let e = read begin setup dag connected lawful edges nodes rows are refused records journals states run (none_counted (workers_in setup.job)) as_long shape h.0 h.1 in
        h.6.0 (ap (λ (ls : List Line). counts_in ls w) e ∙ counts_untold refused (feed_of begin setup rows) (map trimmed journals) (workers_in setup.job) w)
    no_part_fault fault.NoMemory some h = some refl

-- ---- a part has one fault

-- of two workers the first is named
one_counted : (lines : List Line) (v w : ℕ) → IsFirstCounted lines v → IsFirstCounted lines w → v ≡ w
one_counted lines v w h k =
    elim (cases_lt v w) [
      | inl lt ↦ absurd (h.0 (k.1 v lt))
      | inr ge ↦ elim (cases_lt w v) [ inl lt ↦ absurd (k.0 (h.1 w lt)) | inr le ↦ omega arith ]
    ]

-- a fault is of counts, or it isn't
is_state : (f : AuditFault) → ((w : ℕ) × (f ≡ fault.State w)) ⊎ ((w : ℕ) → f ≡ fault.State w → ⊥)
is_state (fault.Shape i) = inr (λ w e. absurd (cc))
is_state (fault.Refused i) = inr (λ w e. absurd (cc))
is_state (fault.Feed i) = inr (λ w e. absurd (cc))
is_state (fault.Law v) = inr (λ w e. absurd (cc))
is_state (fault.Lane n) = inr (λ w e. absurd (cc))
is_state (fault.State w) = inl (w, refl)
is_state fault.NoMemory = inr (λ w e. absurd (cc))

module _ (begin : Begin) (setup : SetupView) (dag : DagView) (connected : IsConnected setup.job) (lawful : IsLawful setup.job) (edges : dag.edges ≡ setup.job.edges) (nodes : dag.nodes ≡ length setup.job.nodes)
    (rows : List Row) (refused : List Noted) (records : List (List (List ℕ)))
  where
    abbrev IsPart : AuditFault → Type 0
    IsPart f = IsPartFaultOf begin setup dag.order refused rows records f

    abbrev IsFault : AuditFault → Type 0
    IsFault f = IsFirstFault begin setup dag.order refused rows records f

    -- but for the counts it is a fault of any audit
    as_fault : (f : AuditFault) → ((w : ℕ) → f ≡ fault.State w → ⊥) → IsPart f → IsFault f
    as_fault (fault.Shape i) early h = h
    as_fault (fault.Refused i) early h = h
    as_fault (fault.Feed i) early h = h
    as_fault (fault.Law v) early h = h
    as_fault (fault.Lane n) early h = h
    as_fault (fault.State w) early h = absurd (early w refl)
    as_fault fault.NoMemory early h = h

    same_lines : (a b : List Line) → AreInShape setup.job records a → AreInShape setup.job records b → a ≡ b
    same_lines a b p q = one_reading setup.job (are_told setup.job lawful) records a b p q

    state_alone : (w : ℕ) (g : AuditFault) → (g ≡ fault.NoMemory → ⊥) → IsPart (fault.State w) → IsPart g → fault.State w ≡ g
    state_alone w (fault.Shape i) some h k = absurd (in_shape begin setup dag connected lawful edges nodes rows refused records i h.0 k h.1)
    state_alone w (fault.Refused i) some h k = absurd (refused_first begin setup dag connected lawful edges nodes rows refused records i h.0 k h.1 h.2)
    state_alone w (fault.Feed i) some h k = absurd (feed_first begin setup dag connected lawful edges nodes rows refused records i h.0 k h.1 h.3)
    state_alone w (fault.Law v) some h k =
        let e = same_lines h.0 k.0 h.1 k.1 in
        absurd (law_or_more begin setup rows (by_worker setup (journal_in k.0)) v k.4 (
        subst (λ (ls : List Line). AreTrimmedFinished begin setup rows (by_worker setup (journal_in ls))) e h.4))
    state_alone w (fault.Lane n) some h k =
        let e = same_lines h.0 k.0 h.1 k.1 in
        let all : AreRestorable begin setup rows (by_worker setup (journal_in k.0)) = subst (λ (ls : List Line). AreRestorable begin setup rows (by_worker setup (journal_in ls))) e h.5 in
        absurd (lane_or_all begin setup dag connected edges nodes rows (by_worker setup (journal_in k.0)) [] all.journals n k.4.0 k.4.1 all.restored)
    state_alone w (fault.State v) some h k =
        let e = same_lines h.0 k.0 h.1 k.1 in
        ap fault.State (one_counted k.0 w v (subst (λ (ls : List Line). IsFirstCounted ls w) e h.6) k.6)
    state_alone w fault.NoMemory some h k = absurd (some refl)

    pub one_part_fault : (f g : AuditFault) → (f ≡ fault.NoMemory → ⊥) → (g ≡ fault.NoMemory → ⊥) → IsPart f → IsPart g → f ≡ g
    one_part_fault f g a b h k = go (is_state f) (is_state g)
      where
        go : ((w : ℕ) × (f ≡ fault.State w)) ⊎ ((w : ℕ) → f ≡ fault.State w → ⊥) → ((w : ℕ) × (g ≡ fault.State w)) ⊎ ((w : ℕ) → g ≡ fault.State w → ⊥) → f ≡ g
        go (inl x) other = x.1 ∙ state_alone x.0 g b (subst IsPart x.1 h) k
        go (inr early) (inl y) = sym (y.1 ∙ state_alone y.0 f a (subst IsPart y.1 k) h)
        go (inr early) (inr late) = one_verdict begin setup dag connected lawful edges nodes rows refused records f g a b (as_fault f early h) (as_fault g late k)
