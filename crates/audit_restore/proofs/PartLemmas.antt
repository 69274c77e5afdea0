-- The first fault of the audit of a part, and its lines.
use Rattle.std.proofs.Common.{◌≡◌, ◌∙◌, ◌<◌, ◌+◌, ℕ, List, [], inl, inr, sym, ap, subst, arith, length, map, Some, slice_get, option_map}
use Rattle.std.specs.FinMap.{empty, entries}
use Rattle.std.proofs.lemmas.Bool.{cases_lt}
use Rattle.std.proofs.lemmas.List.{length-map}
use Rattle.std.proofs.lemmas.Option.{same_Some, slice_get-map, slice_get_within}
use Rattle.keyed_state.specs.Counts.{Counts}
use Rattle.sink_journal.specs.declared.audit.Noted.{Noted}
use Rattle.sink_journal.specs.declared.journal.Entry.{Entry}
use Rattle.tuple_trace.specs.declared.row.Row.{Row}
use Rattle.flow_model.specs.Begin.{Begin, at_first}
use Rattle.flow_model.specs.SetupView.{SetupView, Worker}
use Rattle.flow_model.specs.Workers.{workers_in}
use Rattle.flow_model.proofs.WorkerLemmas.{item_at}
use Rattle.audit_laws.specs.declared.audit.AuditEntry.{AuditEntry}
use Rattle.audit_laws.specs.declared.audit.Line.{Line}
use Rattle.audit_fault.specs.declared.fault.AuditFault.{AuditFault}
use Rattle.audit_fault.specs.declared.fault.AuditFault.TheVariants as fault
use Rattle.audit_laws.specs.Delivered.{feed_of}
use Rattle.audit_laws.specs.Faults.{AreTrimmedFinished, Listed}
use Rattle.audit_laws.specs.Lines.{counts_in, feeds_in, refusals_in}
use Rattle.audit_laws.specs.Part.{AreRestorable, IsFirstCounted, IsPartFaultOf}
use Rattle.audit_laws.specs.Verdict.{AreInShape, IsFirstFault}
use Rattle.audit_laws.proofs.OneRunLemmas.{same_list}
use Rattle.audit_laws.proofs.RangeLemmas.{none_listed}
use Rattle.audit_check.specs.Telling.{Tells}
use Rattle.audit_check.specs.declared.told.Told.{Told}
use Rattle.audit_restore.specs.Restored.{AllRestored, IsFaultOfLanes}
use Rattle.audit_restore.specs.Untold.{AreUntold, IsFirstTold, IsPartFaultOfWorkers}
use Rattle.audit_restore.proofs.CheckLemmas.{text_fault, told_journals}

-- ---- the first passes

-- this beginning, without the counts of any worker
abbrev pub bare : Begin → Begin
bare begin = record begin { states = [] }

-- a fault from both beginnings isn't one of counts
pub first_fault : (begin : Begin) (setup : SetupView) (order : List ℕ) (refused : List Noted) (rows : List Row) (records : List (List (List ℕ))) (f : AuditFault) → IsFirstFault begin setup order refused rows records f
    → IsFirstFault (bare begin) setup order refused rows records f → IsPartFaultOf begin setup order refused rows records f
first_fault begin setup order refused rows records (fault.Shape i) h k = h
first_fault begin setup order refused rows records (fault.Refused i) h k = h
first_fault begin setup order refused rows records (fault.Feed i) h k = h
first_fault begin setup order refused rows records (fault.Law w) h k = h
first_fault begin setup order refused rows records (fault.Lane n) h k = h
first_fault begin setup order refused rows records (fault.State w) h k = let none : slice_get [] w ≡ Some k.4.1.counts = k.4.1.begins in absurd (cc)
first_fault begin setup order refused rows records fault.NoMemory h k = tt

-- ---- the passes over the workers

pub part_lanes_fault : (begin : Begin) (setup : SetupView) (order : List ℕ) (rows : List Row) (audit : List (List AuditEntry)) (told : List Listed) → AreTrimmedFinished begin setup rows audit → (f : AuditFault)
    → IsFaultOfLanes begin setup order rows audit f → IsPartFaultOfWorkers begin setup order rows audit told f
part_lanes_fault begin setup order rows audit told law (fault.Shape i) h = h
part_lanes_fault begin setup order rows audit told law (fault.Refused i) h = h
part_lanes_fault begin setup order rows audit told law (fault.Feed i) h = h
part_lanes_fault begin setup order rows audit told law (fault.Law w) h = absurd h
part_lanes_fault begin setup order rows audit told law (fault.Lane n) h = (law, h)
part_lanes_fault begin setup order rows audit told law (fault.State w) h = absurd h
part_lanes_fault begin setup order rows audit told law fault.NoMemory h = tt

restorable : (begin : Begin) (setup : SetupView) (rows : List Row) (audit : List (List AuditEntry)) (journals : List (List Entry)) (states : List Counts) → AllRestored begin setup rows audit journals states
    → AreRestorable begin setup rows audit
restorable begin setup rows audit journals states all = record {
  journals = journals;
  restored = λ w who p. all.restored w (slice_get_within (workers_in setup.job) w who p);
}

pub count_fault : (begin : Begin) (setup : SetupView) (order : List ℕ) (rows : List Row) (audit : List (List AuditEntry)) (told : List Listed) (journals : List (List Entry)) (states : List Counts) → AreTrimmedFinished begin setup rows audit
    → AllRestored begin setup rows audit journals states → (f : AuditFault) → IsFirstTold told f → IsPartFaultOfWorkers begin setup order rows audit told f
count_fault begin setup order rows audit told journals states law all (fault.Shape i) h = h
count_fault begin setup order rows audit told journals states law all (fault.Refused i) h = h
count_fault begin setup order rows audit told journals states law all (fault.Feed i) h = h
count_fault begin setup order rows audit told journals states law all (fault.Law w) h = absurd h
count_fault begin setup order rows audit told journals states law all (fault.Lane n) h = absurd h
count_fault begin setup order rows audit told journals states law all (fault.State w) h = (law, restorable begin setup rows audit journals states all, h)
count_fault begin setup order rows audit told journals states law all fault.NoMemory h = tt

-- ---- of the text

-- the first worker of which a count is told is the first of which the lines tell one
first_counted : (setup : SetupView) (lines : List Line) (told : Told) → Tells (length (workers_in setup.job)) lines told → (w : ℕ) → IsFirstTold told.states.items (fault.State w) → IsFirstCounted lines w
first_counted setup lines told tells w h =
    let lt : w < length (workers_in setup.job) = let inside = h.0 in omega (arith, inside, tells.states_long) in (
      λ e. h.1 (tells.states_are w lt ∙ ap Some e),
      λ v less. same_Some (counts_in lines v) [] (sym (tells.states_are v (omega (arith, lt, less))) ∙ h.2 v less),
    )

pub part_text_fault : (begin : Begin) (setup : SetupView) (order : List ℕ) (refused : List Noted) (rows : List Row) (records : List (List (List ℕ))) (lines : List Line) (told : Told) → AreInShape setup.job records lines → refusals_in lines ≡ refused
    → feeds_in lines ≡ feed_of begin setup rows → Tells (length (workers_in setup.job)) lines told → (f : AuditFault) → IsPartFaultOfWorkers begin setup order rows told.journals.items told.states.items f → IsPartFaultOf begin setup order refused rows records f
part_text_fault begin setup order refused rows records lines told shape r s tells (fault.Shape i) h = absurd h
part_text_fault begin setup order refused rows records lines told shape r s tells (fault.Refused i) h = absurd h
part_text_fault begin setup order refused rows records lines told shape r s tells (fault.Feed i) h = absurd h
part_text_fault begin setup order refused rows records lines told shape r s tells (fault.Law w) h = text_fault begin setup order refused rows records lines told shape r s tells (fault.Law w) h
part_text_fault begin setup order refused rows records lines told shape r s tells (fault.Lane n) h = text_fault begin setup order refused rows records lines told shape r s tells (fault.Lane n) h
part_text_fault begin setup order refused rows records lines told shape r s tells (fault.State w) h =
    let e = told_journals setup lines told tells in (
      lines,
      shape,
      r,
      s,
      subst (AreTrimmedFinished begin setup rows) (sym e) h.0,
      subst (AreRestorable begin setup rows) (sym e) h.1,
      first_counted setup lines told tells w h.2,
    )
part_text_fault begin setup order refused rows records lines told shape r s tells fault.NoMemory h = tt

-- ---- no counts

-- if no count is told, what is told is what a record without counts lists
pub untold_states : (setup : SetupView) (told : List Listed) → length told ≡ length (workers_in setup.job) → AreUntold told (length (workers_in setup.job)) → told ≡ map entries (at_first setup).states
untold_states setup told long untold =
    let none : List Counts = (at_first setup).states in
    same_list told (map entries none) (long ∙ (sym (length-map (workers_in setup.job) (λ (who : Worker). empty)) ∙ sym (length-map none entries))) (λ w lt.
    let within : w < length (workers_in setup.job) = omega (arith, lt, long) in
    let who = item_at (workers_in setup.job) w within in
    untold w within
    ∙ sym (slice_get-map entries none w
    ∙ (ap (option_map entries) (slice_get-map (λ (who : Worker). empty) (workers_in setup.job) w ∙ ap (option_map (λ (who : Worker). empty)) who.1)
    ∙ ap Some none_listed)))

pub one_more_untold : (told : List Listed) (w : ℕ) → AreUntold told w → slice_get told w ≡ Some [] → AreUntold told (w + 1)
one_more_untold told w h here v lt =
    elim (cases_lt v w) [
      | inl less ↦ h v less
      | inr ge ↦ let e : w ≡ v = omega arith in subst (λ u. slice_get told u ≡ Some []) e here
    ]
