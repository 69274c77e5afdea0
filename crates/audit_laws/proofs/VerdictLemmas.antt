-- A text that a run fits has no fault, and it tells the run.
use Rattle.std.proofs.Common.{◌≡◌, ◌∙◌, ◌<◌, ◌+◌, ◌∷◌, ℕ, List, inl, inr, refl, sym, ap, subst, arith, length, All, map, Some, slice_get}
use Rattle.std.specs.FinMap.{entries}
use Rattle.std.proofs.lemmas.List.{length-map}
use Rattle.flow_dag.specs.Dag.{DagView}
use Rattle.jobs.specs.Law.{IsLawful}
use Rattle.keyed_state.specs.Counts.{Counts}
use Rattle.sink_journal.specs.Audit.{audit_header, audit_records}
use Rattle.sink_journal.specs.declared.audit.Noted.{Noted}
use Rattle.sink_journal.specs.declared.journal.Entry.{Entry}
use Rattle.sink_journal.specs.declared.journal.Feed.{Feed}
use Rattle.tuple_trace.specs.Rows.{AreRows}
use Rattle.tuple_trace.specs.declared.row.Row.{Row}
use Rattle.flow_model.specs.Begin.{Begin}
use Rattle.flow_model.specs.SetupView.{SetupView}
use Rattle.flow_model.specs.Run.{IsRunSince, IsRunFrom, Ran, ran_as}
use Rattle.flow_model.specs.Workers.{workers_in}
use Rattle.flow_model.proofs.JobLemmas.{IsConnected}
use Rattle.flow_model.proofs.WorkerLemmas.{item_at}
use Rattle.audit_laws.specs.declared.audit.AuditEntry.{AuditEntry}
use Rattle.audit_laws.specs.declared.audit.Line.{Line}
use Rattle.audit_fault.specs.declared.fault.AuditFault.{AuditFault}
use Rattle.audit_fault.specs.declared.fault.AuditFault.TheVariants as fault
use Rattle.audit_laws.specs.Delivered.{feed_of}
use Rattle.audit_laws.specs.Faults.{IsFaultOfWorkers, Listed}
use Rattle.audit_laws.specs.Fits.{Fits, HasForm, kept_lines, csv_records}
use Rattle.audit_laws.specs.Lines.{IsLawfulLine, line_fields, counts_in, feeds_in, journal_in, lines_of, refusals_in}
use Rattle.audit_laws.specs.Trimmed.{trimmed}
use Rattle.audit_laws.specs.Names.{named_workers}
use Rattle.audit_laws.specs.Verdict.{AreInShape, IsFirstFault, by_worker}
use Rattle.audit_laws.proofs.FaultLemmas.{no_fault}
use Rattle.audit_laws.proofs.GroupLemmas.{lines_ordered}
use Rattle.audit_laws.proofs.TextLemmas.{audit_lines}
use Rattle.audit_laws.proofs.NamedLemmas.{are_told}
use Rattle.audit_laws.proofs.OneRunLemmas.{length_trimmed}
use Rattle.audit_laws.proofs.ShapeLemmas.{counts_told, feeds_told, journal_told, mapped_numbers, no_bad_shape, no_difference, no_missing_header, one_reading, refusals_told}

-- what the lines of a run tell of its workers is what was kept of them
module _ (setup : SetupView) (refusals : List Noted) (feeds : List Feed) (journals : List (List Entry)) (states : List Counts)
    (one_journal_each : length journals ≡ length (workers_in setup.job)) (one_state_each : length states ≡ length (workers_in setup.job))
  where
    abbrev pub the_lines : List Line
    the_lines = lines_of refusals feeds (map trimmed journals) (map entries states)

    here : (w : ℕ) → w < length (workers_in setup.job)
        → ((j : List AuditEntry) × (slice_get (map trimmed journals) w ≡ Some j)) × ((s : Listed) × (slice_get (map entries states) w ≡ Some s))
    here w lt = (
      item_at (map trimmed journals) w (let l = length_trimmed journals in omega arith),
      item_at (map entries states) w (let l : length (map entries states) ≡ length states = length-map states entries in omega arith),
    )

    pub journals_told : by_worker setup (journal_in the_lines) ≡ map trimmed journals
    journals_told =
        mapped_numbers (journal_in the_lines) 0 (length (workers_in setup.job)) (map trimmed journals) (length_trimmed journals ∙ one_journal_each) (λ w lt.
        let h = here w lt in
        let z : w ≡ 0 + w = omega arith in
        h.0.1 ∙ ap Some (sym (journal_told refusals feeds (map trimmed journals) (map entries states) w h.0.0 h.1.0 h.0.1 h.1.1) ∙ ap (journal_in the_lines) z))

    pub states_told : by_worker setup (counts_in the_lines) ≡ map entries states
    states_told =
        mapped_numbers (counts_in the_lines) 0 (length (workers_in setup.job)) (map entries states) (length-map states entries ∙ one_state_each) (λ w lt.
        let h = here w lt in
        let z : w ≡ 0 + w = omega arith in
        h.1.1 ∙ ap Some (sym (counts_told refusals feeds (map trimmed journals) (map entries states) w h.0.0 h.1.0 h.0.1 h.1.1) ∙ ap (counts_in the_lines) z))

module _ (begin : Begin) (setup : SetupView) (dag : DagView) (connected : IsConnected setup.job) (lawful : IsLawful setup.job) (edges : dag.edges ≡ setup.job.edges) (nodes : dag.nodes ≡ length setup.job.nodes)
    (rows : List Row) (are : AreRows rows) (refused : List Noted) (records : List (List (List ℕ))) (journals : List (List Entry)) (states : List Counts)
    (run : IsRunFrom begin rows (ran_as setup (feed_of begin setup rows) journals states))
  where
    -- the lines of the run, with these counts told of it
    module _ (told : List Counts) (one_told_each : length told ≡ length (workers_in setup.job))
        (shape : AreInShape setup.job records (lines_of refused (feed_of begin setup rows) (map trimmed journals) (map entries told)))
      where
        abbrev lines : List Line
        lines = lines_of refused (feed_of begin setup rows) (map trimmed journals) (map entries told)

        pub read : (others : List Line) → AreInShape setup.job records others → others ≡ lines
        read others s = one_reading setup.job (are_told setup.job lawful) records others lines s shape

        of_workers : (f : AuditFault) → (f ≡ fault.NoMemory → ⊥) → (others : List Line) → AreInShape setup.job records others
            → IsFaultOfWorkers begin setup dag.order rows (by_worker setup (journal_in others)) (map entries states) f → ⊥
        of_workers f some others s h =
            let j : by_worker setup (journal_in others) ≡ map trimmed journals =
            ap (λ (ls : List Line). by_worker setup (journal_in ls)) (read others s) ∙ journals_told setup refused (feed_of begin setup rows) journals told run.one_journal_each one_told_each in
            no_fault begin setup dag connected edges nodes rows are journals states run f some (
            subst (λ (x : List (List AuditEntry)). IsFaultOfWorkers begin setup dag.order rows x (map entries states) f) j h)

        -- whatever counts are told, no fault of another kind stands
        pub no_fault_before : (f : AuditFault) → (f ≡ fault.NoMemory → ⊥) → ((w : ℕ) → f ≡ fault.State w → ⊥) → IsFirstFault begin setup dag.order refused rows records f → ⊥
        no_fault_before (fault.Shape i) some early (inl h) = no_missing_header setup.job records lines shape h.1
        no_fault_before (fault.Shape i) some early (inr h) = no_bad_shape setup.job (are_told setup.job lawful) records lines i shape h
        no_fault_before (fault.Refused i) some early h =
            no_difference (refusals_in h.0) refused h.1
            (ap refusals_in (read h.0 h.2) ∙ refusals_told refused (feed_of begin setup rows) (map trimmed journals) (map entries told)) h.4
        no_fault_before (fault.Feed i) some early h =
            no_difference (feeds_in h.0) (feed_of begin setup rows) h.1
            (ap feeds_in (read h.0 h.2) ∙ feeds_told refused (feed_of begin setup rows) (map trimmed journals) (map entries told)) h.5
        no_fault_before (fault.Law w) some early h = of_workers (fault.Law w) some h.0 h.1 h.4
        no_fault_before (fault.Lane n) some early h = of_workers (fault.Lane n) some h.0 h.1 h.4
        no_fault_before (fault.State w) some early h = early w refl
        no_fault_before fault.NoMemory some early h = some refl

    module _ (shape : AreInShape setup.job records (lines_of refused (feed_of begin setup rows) (map trimmed journals) (map entries states))) where
      no_state : (w : ℕ) → IsFirstFault begin setup dag.order refused rows records (fault.State w) → ⊥
      no_state w h =
          let c : by_worker setup (counts_in h.0) ≡ map entries states =
          ap (λ (ls : List Line). by_worker setup (counts_in ls)) (read states run.one_state_each shape h.0 h.1)
          ∙ states_told setup refused (feed_of begin setup rows) journals states run.one_journal_each run.one_state_each in
          of_workers states run.one_state_each shape (fault.State w) (λ e. absurd (cc)) h.0 h.1 (
          subst (λ (x : List Listed). IsFaultOfWorkers begin setup dag.order rows (by_worker setup (journal_in h.0)) x (fault.State w)) c h.4)

      pub no_text_fault : (f : AuditFault) → (f ≡ fault.NoMemory → ⊥) → IsFirstFault begin setup dag.order refused rows records f → ⊥
      no_text_fault f some h =
          no_fault_before states run.one_state_each shape f some (λ w e.
          no_state w (subst (IsFirstFault begin setup dag.order refused rows records) e h)) h

-- runs whose lines are those of one text are the same once trimmed
pub same_trims : (setup : SetupView) → IsLawful setup.job → (refused : List Noted) (records : List (List (List ℕ))) (feeds others : List Feed) (A B : List (List Entry)) (S T : List Counts)
    → length A ≡ length (workers_in setup.job) → length S ≡ length (workers_in setup.job) → length B ≡ length (workers_in setup.job) → length T ≡ length (workers_in setup.job)
    → AreInShape setup.job records (lines_of refused feeds (map trimmed A) (map entries S))
    → AreInShape setup.job records (lines_of refused others (map trimmed B) (map entries T)) → map trimmed A ≡ map trimmed B
same_trims setup lawful refused records feeds others A B S T a s b t p q =
    let e : lines_of refused feeds (map trimmed A) (map entries S) ≡ lines_of refused others (map trimmed B) (map entries T) =
    one_reading setup.job (are_told setup.job lawful) records _ _ p q in
    sym (journals_told setup refused feeds A S a s)
    ∙ (ap (λ (ls : List Line). by_worker setup (journal_in ls)) e ∙ journals_told setup refused others B T b t)

-- a record has the records of its lines
pub told_lines : (setup : SetupView) (refused : List Noted) (ran : Ran) → ran.setup ≡ setup → length ran.journals ≡ length (workers_in ran.setup.job) → length ran.states ≡ length (workers_in ran.setup.job)
    → audit_header ∷ audit_records ran.setup.job refused ran.feeds ran.journals ran.states ≡ audit_header ∷ map (line_fields (named_workers setup.job.nodes)) (kept_lines refused ran)
told_lines setup refused ran same journals states =
    subst (λ (s : SetupView). audit_header ∷ audit_records ran.setup.job refused ran.feeds ran.journals ran.states ≡ audit_header ∷ map (line_fields (named_workers s.job.nodes)) (kept_lines refused ran)) same
    (audit_lines ran.setup.job refused ran.feeds ran.journals ran.states journals states)

-- a run fits a text exactly where the text's records are its lines
pub fits_lines : (begin : Begin) (setup : SetupView) (rows : List Row) (refused : List Noted) (ran : Ran) → IsRunSince begin setup rows ran
    → audit_header ∷ audit_records ran.setup.job refused ran.feeds ran.journals ran.states ≡ audit_header ∷ map (line_fields (named_workers setup.job.nodes)) (kept_lines refused ran)
fits_lines begin setup rows refused ran is = told_lines setup refused ran is.setup_is is.run.one_journal_each is.run.one_state_each

-- the lines of a record that fits a text are in shape
pub shape_of : (setup : SetupView) (refused : List Noted) (text : List ℕ) (ran : Ran) → ran.setup ≡ setup → length ran.journals ≡ length (workers_in ran.setup.job) → length ran.states ≡ length (workers_in ran.setup.job)
    → Fits refused text ran → HasForm refused ran → AreInShape setup.job (csv_records text) (kept_lines refused ran)
shape_of setup refused text ran same journals states fits form = record {
  fields = fits ∙ told_lines setup refused ran same journals states;
  each = subst (λ (s : SetupView). All (IsLawfulLine s.job) (kept_lines refused ran)) same form;
  ordered = lines_ordered refused ran.feeds (map trimmed ran.journals) (map entries ran.states);
}

pub in_shape : (begin : Begin) (setup : SetupView) (rows : List Row) (refused : List Noted) (text : List ℕ) (ran : Ran) → IsRunSince begin setup rows ran → Fits refused text ran → HasForm refused ran
    → AreInShape setup.job (csv_records text) (kept_lines refused ran)
in_shape begin setup rows refused text ran is fits form = shape_of setup refused text ran is.setup_is is.run.one_journal_each is.run.one_state_each fits form
