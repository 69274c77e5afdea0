-- The first fault of the passes over the workers, and the run that passes them.
use Rattle.std.proofs.Common.{◌≡◌, ◌≢◌, ◌∙◌, ◌<◌, ◌≤◌, ◌+◌, ◌^◌, ℕ, zero, suc, List, [], ◌∷◌, refl, sym, ap, ap₂, subst, arith, All, length, map, take, Some, slice_get, option_map}
use Rattle.std.specs.FinMap.{empty, entries}
use Rattle.std.proofs.lemmas.List.{length-map}
use Rattle.std.proofs.lemmas.Option.{same_Some, slice_get-get_or, slice_get-map, slice_get_within}
use Rattle.keyed_state.specs.Counts.{Counts}
use Rattle.sink_journal.specs.declared.audit.Noted.{Noted}
use Rattle.sink_journal.specs.declared.journal.Entry.{Entry}
use Rattle.sink_journal.specs.declared.journal.Feed.{Feed}
use Rattle.tuple_trace.specs.declared.row.Row.{Row}
use Rattle.jobs.specs.JobView.{JobView}
use Rattle.flow_model.specs.Begin.{Begin}
use Rattle.flow_model.specs.SetupView.{SetupView, Worker}
use Rattle.flow_model.specs.Replay.{shown}
use Rattle.flow_model.specs.Run.{final_counts, ran_as}
use Rattle.flow_model.specs.Workers.{nth_worker, workers_in}
use Rattle.flow_model.proofs.WorkerPlaces.{get-nth_worker}
use Rattle.audit_laws.specs.declared.audit.AuditEntry.{AuditEntry}
use Rattle.audit_laws.specs.declared.audit.Line.{Line}
use Rattle.audit_fault.specs.declared.fault.AuditFault.{AuditFault}
use Rattle.audit_fault.specs.declared.fault.AuditFault.TheVariants as fault
use Rattle.audit_laws.specs.Delivered.{delivered, feed_of}
use Rattle.audit_laws.specs.Checked.{IsChecked}
use Rattle.audit_laws.specs.Faults.{AreTrimmedFinished, HasBadState, IsFaultOfWorkers, Listed}
use Rattle.audit_laws.specs.Fits.{kept_lines}
use Rattle.audit_laws.specs.Lines.{counts_in, feeds_in, journal_in, lines_of, refusals_in}
use Rattle.audit_laws.specs.declared.audit.Line.TheVariants as line
use Rattle.audit_fault.specs.Noting.{IsNoted}
use Rattle.audit_laws.specs.Lines.{IsLawfulLine, group_of}
use Rattle.audit_laws.specs.Trimmed.{trimmed}
use Rattle.audit_laws.proofs.TextLemmas.{length-named}
use Rattle.flow_model.proofs.ElementLemmas.{all_of_at, at_of_all, in_map, pair_of_all}
use Rattle.fries_lines.specs.Lines.{code_of, noted}
use Rattle.versions.specs.declared.fault.QFault.{QFault}
use Rattle.versions.specs.declared.fault.QFault.TheVariants as why
use Rattle.versions.specs.declared.in_order.Refused.{Refused}
use Rattle.audit_restore.proofs.LinesLemmas.{Within, are_told}
use Rattle.audit_laws.specs.Verdict.{AreInShape, IsFirstFault, by_worker}
use Rattle.audit_laws.proofs.OneRunLemmas.{same_list}
use Rattle.audit_laws.proofs.ShapeLemmas.{mapped_numbers}
use Rattle.audit_journal.specs.Course.{IsFaultOfLaw}
use Rattle.audit_check.specs.Telling.{Tells}
use Rattle.audit_check.specs.declared.told.Told.{Told}
use Rattle.flow_replay.specs.Sent.{begun_counts}
use Rattle.audit_restore.specs.Restored.{AllRestored, IsFaultOfLanes, IsFirstOther}

-- ---- the first fault

pub law_fault : (begin : Begin) (setup : SetupView) (order : List ℕ) (rows : List Row) (audit : List (List AuditEntry)) (told : List Listed) (f : AuditFault) → IsFaultOfLaw begin setup rows audit f → IsFaultOfWorkers begin setup order rows audit told f
law_fault begin setup order rows audit told (fault.Shape i) h = h
law_fault begin setup order rows audit told (fault.Refused i) h = h
law_fault begin setup order rows audit told (fault.Feed i) h = h
law_fault begin setup order rows audit told (fault.Law w) h = h
law_fault begin setup order rows audit told (fault.Lane n) h = absurd h
law_fault begin setup order rows audit told (fault.State w) h = absurd h
law_fault begin setup order rows audit told fault.NoMemory h = tt

pub lanes_fault : (begin : Begin) (setup : SetupView) (order : List ℕ) (rows : List Row) (audit : List (List AuditEntry)) (told : List Listed) → AreTrimmedFinished begin setup rows audit → (f : AuditFault) → IsFaultOfLanes begin setup order rows audit f
    → IsFaultOfWorkers begin setup order rows audit told f
lanes_fault begin setup order rows audit told law (fault.Shape i) h = h
lanes_fault begin setup order rows audit told law (fault.Refused i) h = h
lanes_fault begin setup order rows audit told law (fault.Feed i) h = h
lanes_fault begin setup order rows audit told law (fault.Law w) h = absurd h
lanes_fault begin setup order rows audit told law (fault.Lane n) h = (law, h)
lanes_fault begin setup order rows audit told law (fault.State w) h = absurd h
lanes_fault begin setup order rows audit told law fault.NoMemory h = tt

get_take : {A : Type 0} (xs ys : List A) (n k : ℕ) → take n xs ≡ take n ys → k < n → slice_get xs k ≡ slice_get ys k
get_take xs ys zero k e lt = absurd (omega (arith, lt))
get_take [] [] (suc n) k e lt = refl
get_take [] (y ∷ ys) (suc n) k e lt = absurd (cc)
get_take (x ∷ xs) [] (suc n) k e lt = absurd (cc)
get_take (x ∷ xs) (y ∷ ys) (suc n) zero e lt = let same : x ≡ y = cc in ap Some same
get_take (x ∷ xs) (y ∷ ys) (suc n) (suc k) e lt = let rest : take n xs ≡ take n ys = cc in get_take xs ys n k rest (omega (arith, lt))

bad_state : (begin : Begin) (setup : SetupView) → length begin.states ≡ length (workers_in setup.job) → (rows : List Row) (audit : List (List AuditEntry)) (told : List Listed) (journals : List (List Entry)) (states : List Counts) (w : ℕ) → AllRestored begin setup rows audit journals states
    → (w < length states) × (take w told ≡ take w (map entries states)) × (slice_get told w ≢ slice_get (map entries states) w) → HasBadState begin setup rows audit told w
bad_state begin setup starts rows audit told journals states w all (lt, same, differ) =
    let within : w < length (workers_in setup.job) = let long = all.states_long in omega (arith, lt, long) in
    let works = get-nth_worker setup.job w within in
    let r = all.restored w within in
    let begins = slice_get-get_or begin.states w empty (omega (arith, within, starts)) in
    record {
      journals = journals;
      restored = λ v p q. all.restored v (slice_get_within (workers_in setup.job) v p q);
      who = nth_worker setup.job w;
      works = works;
      counts = begun_counts begin w;
      begins = begins;
      journal = r.journal;
      there = r.there;
      differ = λ e. differ (e
          ∙ sym (counted w (nth_worker setup.job w) (begun_counts begin w) r.journal within works begins r.there));
      least = λ v p c j less q b h.
          let inside = slice_get_within (workers_in setup.job) v p q in
          get_take told (map entries states) w v same less ∙ counted v p c j inside q b h;
    }
  where
    counted : (v : ℕ) (p : Worker) (c : Counts) (j : List Entry) → v < length (workers_in setup.job) → slice_get (workers_in setup.job) v ≡ Some p → slice_get begin.states v ≡ Some c → slice_get journals v ≡ Some j
        → slice_get (map entries states) v ≡ Some (entries (final_counts setup begin p c j))
    counted v p c j inside q b h = slice_get-map entries states v ∙ ap (option_map entries) (all.counted v p c j inside q b h)

pub states_fault : (begin : Begin) (setup : SetupView) → length begin.states ≡ length (workers_in setup.job) → (order : List ℕ) (rows : List Row) (audit : List (List AuditEntry)) (told : List Listed) (journals : List (List Entry)) (states : List Counts) → AreTrimmedFinished begin setup rows audit
    → AllRestored begin setup rows audit journals states → (f : AuditFault) → IsFirstOther told states f → IsFaultOfWorkers begin setup order rows audit told f
states_fault begin setup starts order rows audit told journals states law all (fault.Shape i) h = h
states_fault begin setup starts order rows audit told journals states law all (fault.Refused i) h = h
states_fault begin setup starts order rows audit told journals states law all (fault.Feed i) h = h
states_fault begin setup starts order rows audit told journals states law all (fault.Law w) h = absurd h
states_fault begin setup starts order rows audit told journals states law all (fault.Lane n) h = absurd h
states_fault begin setup starts order rows audit told journals states law all (fault.State w) h = (law, bad_state begin setup starts rows audit told journals states w all h)
states_fault begin setup starts order rows audit told journals states law all fault.NoMemory h = tt

-- ---- of the text

-- what is told of the workers, by the workers
pub told_journals : (setup : SetupView) (lines : List Line) (told : Told) → Tells (length (workers_in setup.job)) lines told → by_worker setup (journal_in lines) ≡ told.journals.items
told_journals setup lines told tells =
    mapped_numbers (journal_in lines) 0 (length (workers_in setup.job)) told.journals.items tells.journals_long (λ i lt. let z : i ≡ 0 + i = omega arith in tells.journals_are i lt ∙ ap (λ k. Some (journal_in lines k)) z)

pub told_states : (setup : SetupView) (lines : List Line) (told : Told) → Tells (length (workers_in setup.job)) lines told → by_worker setup (counts_in lines) ≡ told.states.items
told_states setup lines told tells =
    mapped_numbers (counts_in lines) 0 (length (workers_in setup.job)) told.states.items tells.states_long (λ i lt. let z : i ≡ 0 + i = omega arith in tells.states_are i lt ∙ ap (λ k. Some (counts_in lines k)) z)

pub text_fault : (begin : Begin) (setup : SetupView) (order : List ℕ) (refused : List Noted) (rows : List Row) (records : List (List (List ℕ))) (lines : List Line) (told : Told) → AreInShape setup.job records lines → refusals_in lines ≡ refused
    → feeds_in lines ≡ feed_of begin setup rows → Tells (length (workers_in setup.job)) lines told → (f : AuditFault) → IsFaultOfWorkers begin setup order rows told.journals.items told.states.items f → IsFirstFault begin setup order refused rows records f
text_fault begin setup order refused rows records lines told shape r s tells (fault.Shape i) h = absurd h
text_fault begin setup order refused rows records lines told shape r s tells (fault.Refused i) h = absurd h
text_fault begin setup order refused rows records lines told shape r s tells (fault.Feed i) h = absurd h
text_fault begin setup order refused rows records lines told shape r s tells (fault.Law w) h =
    (lines, shape, r, s, back (fault.Law w) h)
  where
    back : (f : AuditFault) → IsFaultOfWorkers begin setup order rows told.journals.items told.states.items f → IsFaultOfWorkers begin setup order rows (by_worker setup (journal_in lines)) (by_worker setup (counts_in lines)) f
    back f h = subst (λ (a : List (List AuditEntry)). IsFaultOfWorkers begin setup order rows a (by_worker setup (counts_in lines)) f) (sym (told_journals setup lines told tells))
        (subst (λ (b : List Listed). IsFaultOfWorkers begin setup order rows told.journals.items b f) (sym (told_states setup lines told tells)) h)
text_fault begin setup order refused rows records lines told shape r s tells (fault.Lane n) h =
    (lines, shape, r, s, back (fault.Lane n) h)
  where
    back : (f : AuditFault) → IsFaultOfWorkers begin setup order rows told.journals.items told.states.items f → IsFaultOfWorkers begin setup order rows (by_worker setup (journal_in lines)) (by_worker setup (counts_in lines)) f
    back f h = subst (λ (a : List (List AuditEntry)). IsFaultOfWorkers begin setup order rows a (by_worker setup (counts_in lines)) f) (sym (told_journals setup lines told tells))
        (subst (λ (b : List Listed). IsFaultOfWorkers begin setup order rows told.journals.items b f) (sym (told_states setup lines told tells)) h)
text_fault begin setup order refused rows records lines told shape r s tells (fault.State w) h =
    (lines, shape, r, s, back (fault.State w) h)
  where
    back : (f : AuditFault) → IsFaultOfWorkers begin setup order rows told.journals.items told.states.items f → IsFaultOfWorkers begin setup order rows (by_worker setup (journal_in lines)) (by_worker setup (counts_in lines)) f
    back f h = subst (λ (a : List (List AuditEntry)). IsFaultOfWorkers begin setup order rows a (by_worker setup (counts_in lines)) f) (sym (told_journals setup lines told tells))
        (subst (λ (b : List Listed). IsFaultOfWorkers begin setup order rows told.journals.items b f) (sym (told_states setup lines told tells)) h)
text_fault begin setup order refused rows records lines told shape r s tells fault.NoMemory h = tt

-- ---- the run

pub is_checked : (begin : Begin) (setup : SetupView) → length begin.states ≡ length (workers_in setup.job) → (rows : List Row) (audit : List (List AuditEntry)) (journals : List (List Entry)) (states : List Counts) → AreTrimmedFinished begin setup rows audit → length audit ≡ length (workers_in setup.job)
    → AllRestored begin setup rows audit journals states → IsChecked begin setup rows audit journals states
is_checked begin setup starts rows audit journals states law long all = record {
  one_start_each = starts;
  one_journal_each = long;
  one_state_each = all.states_long;
  restored = same_list (map trimmed journals) audit (length-map journals trimmed ∙ (all.journals_long ∙ sym long)) (λ w lt.
      let j = length-map journals trimmed in
      let within : w < length (workers_in setup.job) = let k = all.journals_long in omega (arith, lt, j, k) in
      let r = all.restored w within in
      slice_get-map trimmed journals w ∙ (ap (option_map trimmed) r.there ∙ sym r.kept_there));
  finished = λ w who journal p j. law w who journal p j;
  delivered_is_shown = λ w journal j n lane g e.
      let lt = slice_get_within journals w journal j in
      let within : w < length (workers_in setup.job) = let k = all.journals_long in omega (arith, lt, k) in
      let r = all.restored w within in
      let same : r.journal ≡ journal = same_Some r.journal journal (sym r.there ∙ j) in
      subst (λ (x : List Entry). delivered begin setup rows journals lane ≡ Some (shown setup n x)) same (r.shows n lane g e);
  states_are = λ w who counts journal p b j. all.counted w who counts journal (slice_get_within (workers_in setup.job) w who p) p b j;
}

-- ---- the lines of the run

within_line : (job : JobView) (l : Line) → IsLawfulLine job l → Within (length (workers_in job)) l
within_line job (line.Refused noted) is = tt
within_line job (line.Feed step) is = tt
within_line job (line.Step w e) is = let lt = is.0 in omega (arith, lt, length-named 0 0 job.nodes)
within_line job (line.State w k c) is = let lt = is.0 in omega (arith, lt, length-named 0 0 job.nodes)

pub lines_kept : (setup : SetupView) (refused : List Noted) (records : List (List (List ℕ))) (lines : List Line) (told : Told) (feeds : List Feed) (journals : List (List Entry)) (states : List Counts)
    → AreInShape setup.job records lines → refusals_in lines ≡ refused → feeds_in lines ≡ feeds → Tells (length (workers_in setup.job)) lines told → map trimmed journals ≡ told.journals.items
    → told.states.items ≡ map entries states → lines ≡ kept_lines refused (ran_as setup feeds journals states)
lines_kept setup refused records lines told feeds journals states shape r s tells kept counted =
    are_told (length (workers_in setup.job)) lines (λ l i. within_line setup.job l (at_of_all (IsLawfulLine setup.job) l lines shape.each i)) (λ a b q. pair_of_all (λ a b. group_of a ≤ group_of b) a b lines shape.ordered q)
    ∙ (ap₂ (λ (x : List Noted) (y : List Feed). lines_of x y (by_worker setup (journal_in lines)) (by_worker setup (counts_in lines))) r s
    ∙ ap₂ (λ (x : List (List AuditEntry)) (y : List Listed). lines_of refused feeds x y) (told_journals setup lines told tells ∙ sym kept) (told_states setup lines told tells ∙ counted))

-- ---- out of memory

pub only_memory : (f : AuditFault) → (f ≢ fault.NoMemory → ⊥) → f ≡ fault.NoMemory
only_memory (fault.Shape i) h = absurd (h (λ e. absurd (cc)))
only_memory (fault.Refused i) h = absurd (h (λ e. absurd (cc)))
only_memory (fault.Feed i) h = absurd (h (λ e. absurd (cc)))
only_memory (fault.Law i) h = absurd (h (λ e. absurd (cc)))
only_memory (fault.Lane i) h = absurd (h (λ e. absurd (cc)))
only_memory (fault.State i) h = absurd (h (λ e. absurd (cc)))
only_memory fault.NoMemory h = refl

-- ---- refused requests

few_codes : (f : QFault) → (1 ≤ code_of f) × (code_of f ≤ 10)
few_codes (why.NoNode c) = (omega arith, omega arith)
few_codes (why.Fixed c) = (omega arith, omega arith)
few_codes (why.NodeTwice c) = (omega arith, omega arith)
few_codes (why.Stale c n) = (omega arith, omega arith)
few_codes (why.IllTyped c) = (omega arith, omega arith)
few_codes (why.KindOrKey c) = (omega arith, omega arith)
few_codes (why.BadCarry c) = (omega arith, omega arith)
few_codes why.Empty = (omega arith, omega arith)
few_codes (why.Backwards n) = (omega arith, omega arith)
few_codes (why.LateSplit c) = (omega arith, omega arith)

pub all_noted : (refused : List Refused) → All (λ (n : Noted). n.place < 2 ^ 32) (map noted refused) → All IsNoted (map noted refused)
all_noted refused narrow =
    all_of_at IsNoted (map noted refused) (λ x i.
    let r = in_map noted x refused i in
    let codes = few_codes r.0.fault in
    let code : x.code ≡ code_of r.0.fault = ap (λ (n : Noted). n.code) r.2 in
    (at_of_all (λ (n : Noted). n.place < 2 ^ 32) x (map noted refused) narrow i, (let le = codes.0 in omega (arith, le, code)), (let le = codes.1 in omega (arith, le, code))))
