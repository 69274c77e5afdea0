-- The lines of a run have their form.
use Rattle.std.proofs.Common.{◌≡◌, ◌∙◌, ◌<◌, ◌+◌, ◌^◌, ◌++◌, ℕ, suc, List, [], ◌∷◌, inl, inr, refl, sym, ap, subst, arith, All, length, map, Some, slice_get}
use Rattle.std.specs.FinMap.{entries}
use Rattle.std.proofs.lemmas.List.{length-map}
use Rattle.std.proofs.lemmas.Option.{same_Some, slice_get_within}
use Rattle.jobs.specs.Law.{IsLawful}
use Rattle.keyed_state.specs.Counts.{Counts}
use Rattle.sink_journal.specs.declared.audit.Noted.{Noted}
use Rattle.sink_journal.specs.declared.journal.Entry.{Entry}
use Rattle.sink_journal.specs.declared.journal.Entry.TheVariants as entry
use Rattle.sink_journal.specs.declared.journal.Feed.{Feed}
use Rattle.sink_journal.specs.declared.journal.Feed.TheVariants as feed
use Rattle.tuple_trace.specs.Rows.{AreRows}
use Rattle.tuple_trace.specs.declared.row.Row.{Row}
use Rattle.versions.specs.Kept.{KeepKinds}
use Rattle.flow_model.specs.Begin.{Begin, view_at}
use Rattle.flow_model.specs.Law.{initial}
use Rattle.flow_model.specs.SetupView.{SetupView}
use Rattle.flow_model.specs.Requests.{afters}
use Rattle.flow_model.specs.Run.{IsRunFrom, final_counts, ran_as}
use Rattle.flow_model.specs.Duties.{duties}
use Rattle.flow_model.specs.Workers.{workers_in}
use Rattle.flow_model.proofs.ElementLemmas.{IsIn, all_of_at, at_of_all, in_cases, in_map}
use Rattle.flow_model.proofs.JobLemmas.{IsConnected}
use Rattle.flow_model.proofs.WorkerLemmas.{item_at, worker_with}
use Rattle.audit_laws.specs.declared.audit.AuditEntry.{AuditEntry}
use Rattle.audit_laws.specs.declared.audit.Line.{Line}
use Rattle.audit_laws.specs.declared.audit.Line.TheVariants as line
use Rattle.audit_laws.specs.Delivered.{feed_of}
use Rattle.audit_laws.specs.Faults.{Listed}
use Rattle.audit_fault.specs.Noting.{IsNoted}
use Rattle.audit_laws.specs.Lines.{IsEntryAt, IsLawfulLine, IsStep, lines_from, lines_of, worker_lines}
use Rattle.audit_laws.specs.Names.{named_workers}
use Rattle.audit_laws.specs.Range.{BeginsInRange}
use Rattle.audit_laws.specs.Trimmed.{trim, trimmed}
use Rattle.audit_laws.proofs.EachTupleLemmas.{HasEach}
use Rattle.audit_laws.proofs.FedLemmas.{IsAmong, feed_among}
use Rattle.audit_laws.proofs.LawfulLemmas.{Names, law_names}
use Rattle.audit_laws.proofs.NarrowLemmas.{IsNarrow, each_narrow}
use Rattle.audit_laws.proofs.OneRunLemmas.{Left, left_of, conserved_by_run}
use Rattle.audit_laws.proofs.RangeLemmas.{EachInRange, all_range, begin_range}
use Rattle.audit_laws.proofs.TextLemmas.{length-named}
use Rattle.flow_model.proofs.PlaceLemmas.{map_place}

-- ---- where a line stands

-- a line of workers is one of a worker
in_workers : (k : ℕ) (js : List (List AuditEntry)) (ss : List Listed) (y : Line) → IsIn y (lines_from k js ss)
    → (i : ℕ) × (j : List AuditEntry) × (s : Listed) × (slice_get js i ≡ Some j) × (slice_get ss i ≡ Some s) × IsIn y (worker_lines (k + i) j s)
in_workers k [] ss y i = absurd i
in_workers k (j ∷ js) [] y i = absurd i
in_workers k (j ∷ js) (s ∷ ss) y i =
    elim (in_cases y (worker_lines k j s) (lines_from (k + 1) js ss) i) [
      | inl a ↦ let e : k ≡ k + 0 = omega arith in (0, j, s, refl, refl, subst (λ w. IsIn y (worker_lines w j s)) e a)
      | inr b ↦
          let r = in_workers (k + 1) js ss y b in
          let e : k + 1 + r.0 ≡ k + suc r.0 = omega arith in
          (suc r.0, r.1, r.2, r.3, r.4, subst (λ w. IsIn y (worker_lines w r.1 r.2)) e r.5)
    ]

module _ (begin : Begin) (begins : BeginsInRange begin) (setup : SetupView) (law : IsLawful setup.job) (connected : IsConnected setup.job) (kinds : KeepKinds setup.job setup.requests)
    (few_plans : length setup.plans < 2 ^ 64) (few_requests : length setup.requests < 2 ^ 64) (rows : List Row) (are : AreRows rows) (few_rows : length rows < 2 ^ 64)
    (journals : List (List Entry)) (states : List Counts) (run : IsRunFrom begin rows (ran_as setup (feed_of begin setup rows) journals states))
  where
    feed_form : (x : Feed) → IsAmong (length rows) (length (afters setup.requests)) x → IsStep x
    feed_form (feed.Fed row) among = let le = among in omega arith
    feed_form (feed.Issued request) among =
        let many : length (afters setup.requests) ≡ length setup.requests = length-map setup.requests _ in
        let le = among in
        omega arith
    feed_form feed.Stopped among = tt

    entry_form : (w : ℕ) (journal : List Entry) (x : Entry) → Names setup w x → HasEach (IsNarrow (length rows)) journal → IsIn x journal → IsEntryAt setup.job w (trim x)
    entry_form w journal (entry.Met l t) names narrow i = let q = narrow l t i in let le = q.0 in (names, omega arith, q.1)
    entry_form w journal (entry.Marked l r) names narrow i = let le = names.1 in (names.0, omega arith)
    entry_form w journal (entry.Turned r) names narrow i = let le = names in omega arith
    entry_form w journal (entry.Ended l) names narrow i = names

    worker_form : (w : ℕ) (journal : List Entry) (state : Counts) (y : Line) → slice_get journals w ≡ Some journal → slice_get states w ≡ Some state
        → IsIn y (worker_lines w (trimmed journal) (entries state)) → IsLawfulLine setup.job y
    worker_form w journal state y j s i =
        let lt : w < length (workers_in setup.job) = let l = slice_get_within journals w journal j in omega (arith, l, run.one_journal_each) in
        let p = item_at (workers_in setup.job) w lt in
        let here : Left begin setup rows journals states run w p.0 = left_of begin setup rows journals states run w p.0 p.1 in
        let number : p.0.number ≡ w = (worker_with setup.job w p.0 p.1).0 in
        let one : here.journal ≡ journal = same_Some here.journal journal (sym here.journal_there ∙ j) in
        let two : here.state ≡ state = same_Some here.state state (sym here.state_there ∙ s) in
        let named : w < length (named_workers setup.job.nodes) = omega (arith, lt, length-named 0 0 setup.job.nodes) in
        elim (in_cases y (map (line.Step w) (trimmed journal)) (map (λ counted. line.State w counted.0 counted.1) (entries state)) i) [
          | inl a ↦
              let e = in_map (line.Step w) y (trimmed journal) a in
              let x = in_map trim e.0 journal e.1 in
              let names : Names setup w x.0 =
              subst (λ v. Names setup v x.0) number
              (law_names setup begin.turned p.0 (initial (duties setup begin.turned p.0)) here.journal x.0 law here.worked.finished.lawful.execution (λ r k. k) (subst (λ (l : List Entry). IsIn x.0 l) (sym one) x.1)) in
              let narrow : HasEach (IsNarrow (length rows)) journal =
              each_narrow begin setup law connected kinds rows are journals (conserved_by_run begin setup rows journals states run) w p.0 journal p.1 j in
              let form : IsEntryAt setup.job w e.0 = subst (IsEntryAt setup.job w) (sym x.2) (entry_form w journal x.0 names narrow x.1) in
              subst (IsLawfulLine setup.job) (sym e.2) (named, form)
          | inr b ↦
              let c = in_map (λ counted. line.State w counted.0 counted.1) y (entries state) b in
              let last : state ≡ final_counts setup begin p.0 here.counts here.journal = sym two ∙ here.worked.state_is in
              let range : EachInRange (entries state) =
              subst (λ (counts : Counts). EachInRange (entries counts)) (sym last)
              (all_range setup p.0 (view_at setup begin.turned p.0 here.counts) here.journal (begin_range begin.states w here.counts begins here.begins)) in
              subst (IsLawfulLine setup.job) (sym c.2) (named, range c.0 c.1)
        ]

    -- the lines of a run have their form, if the refused requests are noted as they are to be
    pub run_form : (refused : List Noted) → All IsNoted refused → All (IsLawfulLine setup.job) (lines_of refused (feed_of begin setup rows) (map trimmed journals) (map entries states))
    run_form refused noted =
        all_of_at (IsLawfulLine setup.job) (lines_of refused (feed_of begin setup rows) (map trimmed journals) (map entries states)) (λ y i.
        elim (in_cases y (map line.Refused refused) (map line.Feed (feed_of begin setup rows) ++ lines_from 0 (map trimmed journals) (map entries states)) i) [
          | inl a ↦
              let r = in_map line.Refused y refused a in
              subst (IsLawfulLine setup.job) (sym r.2) (at_of_all IsNoted r.0 refused noted r.1)
          | inr b ↦
              elim (in_cases y (map line.Feed (feed_of begin setup rows)) (lines_from 0 (map trimmed journals) (map entries states)) b) [
                | inl c ↦
                    let r = in_map line.Feed y (feed_of begin setup rows) c in
                    subst (IsLawfulLine setup.job) (sym r.2) (feed_form r.0 (feed_among begin.row begin.turned (afters setup.requests) (length rows) r.0 r.1))
                | inr d ↦
                    let r = in_workers 0 (map trimmed journals) (map entries states) y d in
                    let j = map_place trimmed journals r.0 r.1 r.3 in
                    let s = map_place entries states r.0 r.2 r.4 in
                    let z : 0 + r.0 ≡ r.0 = omega arith in
                    worker_form r.0 j.0 s.0 y j.1 s.1 (
                    subst (λ (a : List AuditEntry). IsIn y (worker_lines r.0 a (entries s.0))) j.2 (
                    subst (λ (b : Listed). IsIn y (worker_lines r.0 r.1 b)) s.2 (
                    subst (λ w. IsIn y (worker_lines w r.1 r.2)) z r.5)))
              ]
        ])
