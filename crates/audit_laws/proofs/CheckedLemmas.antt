-- What is checked of an audit makes what was restored a run, and holds of every run.
use Rattle.std.proofs.Common.{◌≡◌, ◌∙◌, ◌<◌, ℕ, List, refl, sym, ap, ap₂, subst, arith, length, map, Some, slice_get, option_map}
use Rattle.std.proofs.lemmas.Option.{same_Some, slice_get-map, slice_get_within}
use Rattle.keyed_state.specs.Counts.{Counts}
use Rattle.sink_journal.specs.declared.journal.Entry.{Entry}
use Rattle.sink_journal.specs.declared.journal.Entry.TheVariants as entry
use Rattle.tuple_trace.specs.Rows.{AreRows}
use Rattle.tuple_trace.specs.declared.row.Row.{Row}
use Rattle.flow_model.specs.Begin.{Begin}
use Rattle.flow_model.specs.Lanes.{lanes_in}
use Rattle.flow_model.specs.Law.{initial}
use Rattle.flow_model.specs.SetupView.{SetupView, Worker}
use Rattle.flow_model.specs.Run.{IsRunFrom, IsWorked, final_counts, ran_as}
use Rattle.flow_model.specs.Duties.{duties}
use Rattle.flow_model.specs.Workers.{workers_in}
use Rattle.flow_model.proofs.ElementLemmas.{map_in}
use Rattle.flow_model.proofs.JobLemmas.{IsConnected}
use Rattle.flow_model.proofs.MarkerLemmas.{met_on_lane}
use Rattle.flow_model.proofs.WorkerLemmas.{item_at, worker_with}
use Rattle.audit_laws.specs.declared.audit.AuditEntry.{AuditEntry}
use Rattle.audit_laws.specs.Delivered.{feed_of}
use Rattle.audit_laws.specs.Checked.{IsChecked, IsFinishedDraft}
use Rattle.audit_laws.specs.Drafted.{draft, drafted}
use Rattle.audit_laws.specs.Trimmed.{trim, trimmed}
use Rattle.audit_laws.proofs.DraftLemmas.{IssuedRight, draft_finished, finished_draft}
use Rattle.audit_laws.proofs.IssuedLemmas.{issued_right}
use Rattle.audit_laws.proofs.OneRunLemmas.{Left, left_of, length_trimmed, put_by-states, conserved_by_run}
use Rattle.audit_laws.proofs.ConservedLemmas.{IsConservedAt}
use Rattle.audit_laws.proofs.TrimLemmas.{MetOn}

-- tuples come by lanes in, as the law of the draft says
pub met_by_draft : (begin : Begin) (setup : SetupView) (rows : List Row) (who : Worker) (journal : List Entry) → IsFinishedDraft begin setup rows who (trimmed journal) → MetOn (lanes_in setup.job who.number) journal
met_by_draft begin setup rows who journal law l t i =
    met_on_lane (duties setup begin.turned who) (initial (duties setup begin.turned who)) (drafted begin.turned (feed_of begin setup rows) (trimmed journal)) l _ law.lawful.execution
    (map_in (draft begin.turned (feed_of begin setup rows)) (trim (entry.Met l t)) (trimmed journal) (map_in trim (entry.Met l t) journal i))

module _ (begin : Begin) (setup : SetupView) (connected : IsConnected setup.job) (rows : List Row) (are : AreRows rows) (audit : List (List AuditEntry)) (journals : List (List Entry)) (states : List Counts)
    (is : IsChecked begin setup rows audit journals states)
  where
    audit_there : (w : ℕ) (journal : List Entry) → slice_get journals w ≡ Some journal → slice_get audit w ≡ Some (trimmed journal)
    audit_there w journal j = ap (λ (l : List (List AuditEntry)). slice_get l w) (sym is.restored) ∙ (slice_get-map trimmed journals w ∙ ap (option_map trimmed) j)

    as_many : length journals ≡ length (workers_in setup.job)
    as_many = sym (length_trimmed journals) ∙ (ap length is.restored ∙ is.one_journal_each)

    pub conserved_by_check : (w : ℕ) (who : Worker) → slice_get (workers_in setup.job) w ≡ Some who → IsConservedAt begin setup rows journals w
    conserved_by_check w who p =
        let lt : w < length (workers_in setup.job) = slice_get_within (workers_in setup.job) w who p in
        let j = item_at journals w (omega (arith, lt, as_many)) in
        let number : who.number ≡ w = (worker_with setup.job w who p).0 in
        record {
          journal = j.0;
          there = j.1;
          met = subst (λ v. MetOn (lanes_in setup.job v) j.0) number (met_by_draft begin setup rows who j.0 (is.finished w who (trimmed j.0) p (audit_there w j.0 j.1)));
          conserved = is.delivered_is_shown w j.0 j.1;
        }

    pub checked_run : IsRunFrom begin rows (ran_as setup (feed_of begin setup rows) journals states)
    checked_run = record {
      feed = refl;
      one_start_each = is.one_start_each;
      one_journal_each = as_many;
      one_state_each = is.one_state_each;
      worked = worked;
      conserved = λ n lane journal g j. put_by-states begin setup rows journals states lane lane.sender ∙ is.delivered_is_shown lane.receiver journal j n lane g refl;
    }
      where
        worked : (w : ℕ) (who : Worker) (counts : Counts) (journal : List Entry) (state : Counts) → slice_get (workers_in setup.job) w ≡ Some who
            → slice_get begin.states w ≡ Some counts → slice_get journals w ≡ Some journal → slice_get states w ≡ Some state
            → IsWorked setup begin who counts journal state
        worked w who counts journal state p c j s =
            let right : IssuedRight begin.turned (feed_of begin setup rows) journal = issued_right begin setup connected rows are journals conserved_by_check w who journal p j in
            record {
              finished = finished_draft (duties setup begin.turned who) begin.turned (feed_of begin setup rows) journal right (is.finished w who (trimmed journal) p (audit_there w journal j));
              state_is =
                  same_Some state (final_counts setup begin who counts journal) (sym s ∙ is.states_are w who counts journal p c j);
            }

module _ (begin : Begin) (setup : SetupView) (connected : IsConnected setup.job) (rows : List Row) (are : AreRows rows) (journals : List (List Entry)) (states : List Counts)
    (run : IsRunFrom begin rows (ran_as setup (feed_of begin setup rows) journals states))
  where
    journal_at : (w : ℕ) (who : Worker) (journal : List Entry) → slice_get (workers_in setup.job) w ≡ Some who → slice_get journals w ≡ Some journal
        → (l : Left begin setup rows journals states run w who) × (l.journal ≡ journal)
    journal_at w who journal p j =
        let l : Left begin setup rows journals states run w who = left_of begin setup rows journals states run w who p in
        (l, same_Some l.journal journal (sym l.journal_there ∙ j))

    pub run_checked : IsChecked begin setup rows (map trimmed journals) journals states
    run_checked = record {
      one_start_each = run.one_start_each;
      one_journal_each = length_trimmed journals ∙ run.one_journal_each;
      one_state_each = run.one_state_each;
      restored = refl;
      finished = finished;
      delivered_is_shown = λ w journal j n lane g r.
          sym (put_by-states begin setup rows journals states lane lane.sender) ∙ run.conserved n lane journal g (subst (λ v. slice_get journals v ≡ Some journal) (sym r) j);
      states_are = λ w who counts journal p c j.
          let l = journal_at w who journal p j in
          let one : l.0.counts ≡ counts = same_Some l.0.counts counts (sym l.0.begins ∙ c) in
          l.0.state_there ∙ ap Some (l.0.worked.state_is ∙ ap₂ (final_counts setup begin who) one l.1);
    }
      where
        finished : (w : ℕ) (who : Worker) (kept : List AuditEntry) → slice_get (workers_in setup.job) w ≡ Some who → slice_get (map trimmed journals) w ≡ Some kept
            → IsFinishedDraft begin setup rows who kept
        finished w who kept p k =
            let l : Left begin setup rows journals states run w who = left_of begin setup rows journals states run w who p in
            let e : trimmed l.journal ≡ kept =
            same_Some (trimmed l.journal) kept (sym (slice_get-map trimmed journals w ∙ ap (option_map trimmed) l.journal_there) ∙ k) in
            subst (IsFinishedDraft begin setup rows who) e
            (draft_finished (duties setup begin.turned who) begin.turned (feed_of begin setup rows) l.journal
            (issued_right begin setup connected rows are journals (conserved_by_run begin setup rows journals states run) w who l.journal p l.journal_there) l.worked.finished)
