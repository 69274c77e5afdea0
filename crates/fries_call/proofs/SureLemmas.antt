-- What calls answer if the outside counts no fault.
use Rattle.std.proofs.Common.{◌≡◌, ◌≤◌, ◌∙◌, ◌∷◌, [], inl, inr, ℕ, Bool, true, false, List, Option, None, Some, length, refl, sym, ap, subst, arith}
use Rattle.std.specs.Prelude.{⊤}
use Rattle.fries_words.specs.Asked.{Asked, Check, First, Help, Live, Make, MakeAsked, Plan, PlanAsked, Resume, ResumeAsked, Run, Save, Verify, VerifyAsked, Version}
use Rattle.fries_words.specs.Help.{help_of, version_line}
use Rattle.jobs.specs.JobView.{JobView}
use Rattle.payments.specs.Causes.{Faults}
use Rattle.payments.specs.Files.{Files}
use Rattle.fries_lines.specs.Faults.{status_for}
use Rattle.fries_lines.specs.Lines.{sizes_line}
use Rattle.fries_lines.specs.declared.fault.Fault.{Fault}
use Rattle.fries_lines.specs.declared.fault.Fault.TheVariants as fault
use Rattle.fries_lines.specs.declared.fault.FileIs.{FileIs}
use Rattle.fries_lines.specs.declared.fault.FileIs.TheVariants as file
use Rattle.tuple_trace.specs.Counts.{Rose}
use Rattle.versions.specs.declared.in_order.Refused.{Refused}
use Rattle.fries_call.specs.Answers.{Ends, IsNothingAsked}
use Rattle.fries_steps.specs.Outcomes.{EndsAfterRun, EndsStoring, StopsFor, StopsStoring}
use Rattle.fries_steps.specs.FirstJob.{first_job}
use Rattle.fries_call.specs.Make.{IsNotMade, MakesNoRows}
use Rattle.payments.specs.World.{ShelfState, SinkState, World}
use Rattle.fries_steps.specs.Effects.{FileText, Prints, PrintsFault, PrintsReport}
use Rattle.fries_call.specs.Plan.{IsNoSetup, setup_lines}
use Rattle.fries_steps.specs.Reading.{IsUnread, RefusesJob, RefusesRequests, RefusesRows, RefusesSave}
use Rattle.fries_call.specs.Inputs.{AreNoInputs}
use Rattle.fries_call.specs.Prints.{PrintsText}
use Rattle.fries_call.specs.Verify.{HasNoBegin, IsNotRestored, IsNotVerified, subject_by}
use Rattle.fries_verify.specs.Audits.{HoldsNoAlerts, RefusesAlerts, RefusesAudit, Subject, verified_lines}
use Rattle.fries_words.specs.declared.command.AuditOf.{AuditOf}
use Rattle.fries_words.specs.declared.command.AuditOf.TheVariants as audit
use Rattle.fries_call.specs.Resume.{IsNoResume}
use Rattle.flow_model.specs.SetupView.{SetupView}
use Rattle.flow_model.specs.Setup.{setup_view}
use Rattle.fries_steps.specs.Live.{live_fault, live_lines}
use Rattle.fries_steps.specs.Running.{alerts_of, files_written, made_lines, run_lines}
use Rattle.live_control.specs.Asking.{AsksIs}
use Rattle.fries_call.specs.Sure.{IsSure, IsSureStatus, SureCallsEndWell}
use Rattle.fries_steps.specs.declared.answer.Answer.{Answer}

-- ---- answers that are no refusal of the outside

abbrev IsOwn : Option Fault → Type 0
IsOwn (Some (fault.Read which)) = ⊥
IsOwn (Some (fault.Write which)) = ⊥
IsOwn _ = ⊤

own_status : (answer : Option Fault) (refused : List Refused) → IsOwn answer → IsSureStatus (status_for answer refused)
own_status None [] own = (0, omega arith, refl)
own_status None (first ∷ later) own = (6, omega arith, refl)
own_status (Some fault.Usage) refused own = (1, omega arith, refl)
own_status (Some (fault.Job code)) refused own = (2, omega arith, refl)
own_status (Some (fault.Requests code)) refused own = (3, omega arith, refl)
own_status (Some (fault.Payments code)) refused own = (4, omega arith, refl)
own_status (Some (fault.Read which)) refused own = absurd own
own_status (Some (fault.Write which)) refused own = absurd own
own_status (Some fault.NoMemory) refused own = (5, omega arith, refl)
own_status (Some (fault.Long which)) refused own = (7, omega arith, refl)
own_status (Some (fault.Save code)) refused own = (8, omega arith, refl)
own_status (Some (fault.Audit code)) refused own = (9, omega arith, refl)
own_status (Some (fault.Alerts line)) refused own = (9, omega arith, refl)
own_status (Some (fault.Part part)) refused own = (9, omega arith, refl)

-- ---- counts that stay

-- a count that is 0 before and after hasn't risen
not_risen : (before now : ℕ) → before ≡ 0 → now ≡ 0 → Rose before now → ⊥
not_risen before now none still rose = omega (arith, none, still, rose.more)

same_sure : (old stored : World) → stored.shelf.faults ≡ old.shelf.faults → stored.out ≡ old.out → IsSure old → IsSure stored
same_sure old stored shelf out sure = record {
  reads = ap (λ (s : Faults). s.reads) shelf ∙ sure.reads;
  writes = ap (λ (s : Faults). s.writes) shelf ∙ sure.writes;
  out = ap (λ (o : SinkState). o.faults) out ∙ sure.out;
}

-- printing the line of a fault lowers no count
report_above : (answer : Option Fault) (old new : SinkState) → PrintsReport answer old new → old.faults ≤ new.faults
report_above None old new same = let kept = ap (λ (s : SinkState). s.faults) same in omega (arith, kept)
report_above (Some (fault.Write file.Out)) old new same = let kept = ap (λ (s : SinkState). s.faults) same in omega (arith, kept)
report_above (Some why) old new (gains, above) = above

-- nothing was counted before the line of the fault was printed
sure_before : (answer : Option Fault) (between new : World) → PrintsFault answer between new → IsSure new → IsSure between
sure_before answer between new prints sure =
    let above : between.out.faults ≤ new.out.faults = report_above answer between.out new.out prints.line in
    record {
      reads = ap (λ (s : ShelfState). s.faults.reads) (sym prints.shelf) ∙ sure.reads;
      writes = ap (λ (s : ShelfState). s.faults.writes) (sym prints.shelf) ∙ sure.writes;
      out = omega (arith, above, sure.out);
    }

-- ---- files that aren't read

-- only the bytes of a file are refused
abbrev IsOfBytes : (Fault → List ℕ → Type 0) → Type 0
IsOfBytes Refuses = (why : Fault) (bytes : List ℕ) → Refuses why bytes → IsOwn (Some why)

of_job : IsOfBytes RefusesJob
of_job (fault.Job code) bytes refused = tt
of_job _ bytes refused = absurd refused

of_requests : (job : JobView) → IsOfBytes (RefusesRequests job)
of_requests job (fault.Requests code) bytes refused = tt
of_requests job _ bytes refused = absurd refused

of_rows : (job : JobView) → IsOfBytes (RefusesRows job)
of_rows job (fault.Payments code) bytes refused = tt
of_rows job _ bytes refused = absurd refused

of_save : (setup : SetupView) (rows : ℕ) → IsOfBytes (RefusesSave setup rows)
of_save setup rows (fault.Save code) bytes refused = tt
of_save setup rows _ bytes refused = absurd refused

of_audit : (subject : List ℕ → Subject) → IsOfBytes (RefusesAudit subject)
of_audit subject (fault.Audit code) bytes refused = tt
of_audit subject (fault.Part part) bytes refused = tt
of_audit subject _ bytes refused = absurd refused

of_alerts : (text : List ℕ) → IsOfBytes (RefusesAlerts text)
of_alerts text (fault.Alerts line) bytes refused = tt
of_alerts text _ bytes refused = absurd refused

unread_own : (is : FileIs) (Refuses : Fault → List ℕ → Type 0) (files : Option Files) (name : List ℕ) (old new : World) (why : Fault) → IsOfBytes Refuses →
    IsSure old → IsSure new → IsUnread is Refuses files name old.shelf.faults new.shelf.faults why → IsOwn (Some why)
unread_own is Refuses files name old new (fault.Read which) of sure later unread =
    absurd (not_risen old.shelf.faults.reads new.shelf.faults.reads sure.reads later.reads unread.1.rose)
unread_own is Refuses files name old new (fault.Long which) of sure later unread = tt
unread_own is Refuses files name old new fault.NoMemory of sure later unread = tt
unread_own is Refuses files name old new why of sure later unread = of why unread.0.bytes unread.0.are_so

no_setup_own : (asked : PlanAsked) (files : Option Files) (old new : World) (why : Fault) → IsSure old → IsSure new →
    IsNoSetup asked files old.shelf.faults new.shelf.faults why → IsOwn (Some why)
no_setup_own asked files old new why sure later none =
    elim none [
      | inl unread ↦ unread_own file.Job RefusesJob files asked.job old new why of_job sure later unread
      | inr (job, of, unread) ↦ unread_own file.Requests (RefusesRequests job) files asked.requests old new why (of_requests job) sure later unread
    ]

no_inputs_own : (plan : PlanAsked) (payments : List ℕ) (files : Option Files) (old new : World) (why : Fault) → IsSure old → IsSure new →
    AreNoInputs files plan payments old.shelf.faults new.shelf.faults why → IsOwn (Some why)
no_inputs_own plan payments files old new why sure later none =
    elim none [
      | inl unread ↦ no_setup_own plan files old new why sure later unread
      | inr (job, requests, of, them, unread) ↦ unread_own file.Payments (RefusesRows job) files payments old new why (of_rows job) sure later unread
    ]

no_begin_own : (asked : VerifyAsked) (of : AuditOf) (files : Option Files) (old new : World)
    (why : Fault) → IsSure old → IsSure new →
    HasNoBegin asked of files old.shelf.faults new.shelf.faults why → IsOwn (Some why)
no_begin_own asked (audit.Resume save) files old new why sure later none =
    unread_own file.Save (RefusesSave (setup_view none.setup) (length none.rows)) files save old new
    why (of_save (setup_view none.setup) (length none.rows)) sure later none.unread
no_begin_own asked _ files old new why sure later none = absurd none

not_restored_own : (asked : VerifyAsked) (files : Option Files) (old new : World) (why : Fault) → IsSure old → IsSure new →
    IsNotRestored asked files old.shelf.faults new.shelf.faults why → IsOwn (Some why)
not_restored_own asked files old new why sure later none =
    elim none [
      | inl none ↦ no_inputs_own asked.plan asked.payments files old new why sure later none
      | inr (inl none) ↦ no_begin_own asked asked.of files old new why sure later none
      | inr (inr none) ↦
          let subject = subject_by asked.of none.begin none.setup none.rows in
          unread_own file.Audit (RefusesAudit subject) files asked.audit old new why
          (of_audit subject) sure later none.unread
    ]

no_alerts_own : (name : Option (List ℕ)) (text : List ℕ) (files : Option Files) (old new : World) (why : Fault) → IsSure old → IsSure new →
    HoldsNoAlerts files name text old.shelf.faults new.shelf.faults why → IsOwn (Some why)
no_alerts_own None text files old new why sure later unread = absurd unread
no_alerts_own (Some name) text files old new why sure later unread = unread_own file.Alerts (RefusesAlerts text) files name old new why (of_alerts text) sure later unread

not_verified_own : (asked : VerifyAsked) (files : Option Files) (old new : World) (why : Fault) → IsSure old → IsSure new →
    IsNotVerified asked files old.shelf.faults new.shelf.faults why → IsOwn (Some why)
not_verified_own asked files old new why sure later none =
    elim none [
      | inl none ↦ not_restored_own asked files old new why sure later none
      | inr other ↦ no_alerts_own asked.alerts (alerts_of other.done) files old new why sure later other.unread
    ]

no_resume_own : (asked : ResumeAsked) (files : Option Files) (old new : World) (why : Fault) → IsSure old → IsSure new →
    IsNoResume asked files old.shelf.faults new.shelf.faults why → IsOwn (Some why)
no_resume_own asked files old new why sure later none =
    elim none [
      | inl none ↦ no_inputs_own asked.run.plan asked.run.payments files old new why sure later none
      | inr none ↦ unread_own file.Save (RefusesSave (setup_view none.setup) (length none.rows)) files asked.save old new why (of_save (setup_view none.setup) (length none.rows)) sure later none.unread
    ]

no_rows_own : (asked : MakeAsked) (job : JobView) (why : Fault) → MakesNoRows asked job why → IsOwn (Some why)
no_rows_own asked job (fault.Payments code) none = tt
no_rows_own asked job fault.NoMemory none = tt
no_rows_own asked job _ none = absurd none

not_made_own : (asked : MakeAsked) (files : Option Files) (old new : World) (why : Fault) → IsSure old → IsSure new →
    IsNotMade asked files old.shelf.faults new.shelf.faults why → IsOwn (Some why)
not_made_own asked files old new why sure later none =
    elim none [
      | inl unread ↦ unread_own file.Job RefusesJob files asked.job old new why of_job sure later unread
      | inr (job, of, made, kept) ↦ no_rows_own asked job why made
    ]

-- ---- what is stored and printed

prints_own : (text : List ℕ) (old new : SinkState) (answer : Option Fault) → old.faults ≡ 0 → new.faults ≡ 0 →
    Prints text old new answer → IsOwn answer
prints_own text old new None none still prints = tt
prints_own text old new (Some (fault.Write file.Out)) none still (gains, rose) = absurd (not_risen old.faults new.faults none still rose)
prints_own text old new (Some fault.NoMemory) none still prints = tt
prints_own text old new (Some _) none still prints = absurd prints

no_memory_own : (answer : Option Fault) → answer ≡ Some fault.NoMemory → IsOwn answer
no_memory_own answer is = subst IsOwn (sym is) tt

stops_own : (text : FileText) (old new : World) (answer : Option Fault) → IsSure old → IsSure new → StopsStoring text old new answer → IsOwn answer
stops_own text old new answer sure later stops =
    elim stops.cause [
      | inl (is, failed) ↦ absurd (not_risen old.shelf.faults.writes new.shelf.faults.writes sure.writes later.writes failed.rose)
      | inr (is, kept) ↦ no_memory_own answer (stops.answer_is ∙ ap (λ (f : Fault). Some f) is)
    ]

storing_own : (texts : List FileText) (lines : List ℕ) (old new : World) (answer : Option Fault) → IsSure old → IsSure new →
    EndsStoring texts lines old new answer → IsOwn answer
storing_own [] lines old new answer sure later outcome = prints_own lines old.out new.out answer sure.out later.out outcome.prints
storing_own (text ∷ rest) lines old new answer sure later outcome =
    elim outcome [
      | inl stops ↦ stops_own text old new answer sure later stops
      | inr (stored, stores, more) ↦ storing_own rest lines stored new answer (same_sure old stored stores.faults stores.out sure) later more
    ]

run_own : (texts : List FileText) (lines : List ℕ) (old new : World) (answer : Option Fault) → IsSure old → IsSure new →
    EndsAfterRun texts lines old new answer → IsOwn answer
run_own texts lines old new answer sure later outcome =
    elim outcome [
      | inl stops ↦ no_memory_own answer stops.answer_is
      | inr stores ↦ storing_own texts lines old new answer sure later stores
    ]

-- ---- each command

stopped_own : (Cause : Faults → Faults → Fault → Type 0) (old new : World) (answer : Answer) → (s : StopsFor Cause old new answer) →
    IsOwn (Some s.why) → IsOwn answer.fault
stopped_own Cause old new answer s own = subst (λ (x : Answer). IsOwn x.fault) (sym s.answer_is) own

text_own : (text : List ℕ) (old new : World) (answer : Answer) → PrintsText text old new answer → IsSure old → IsSure new → IsOwn answer.fault
text_own text old new answer p sure later = prints_own text old.out new.out answer.fault sure.out later.out p.lines.prints

nothing_own : (old new : World) (answer : Answer) → StopsFor IsNothingAsked old new answer → IsOwn answer.fault
nothing_own old new answer s =
    stopped_own IsNothingAsked old new answer s (elim s.cause.0 [
      | inl e ↦ subst (λ (f : Fault). IsOwn (Some f)) (sym e) tt
      | inr e ↦ subst (λ (f : Fault). IsOwn (Some f)) (sym e) tt
    ])

-- the fault of an input that failed is no own one
live_own : (failed : Bool) (written answer : Option Fault) → answer ≡ live_fault failed written → IsOwn written → (failed ≡ true → ⊥) → IsOwn answer
live_own true (Some why) answer is own sure = subst IsOwn (sym is) own
live_own true None answer is own sure = absurd (sure refl)
live_own false (Some why) answer is own sure = subst IsOwn (sym is) own
live_own false None answer is own sure = subst IsOwn (sym is) tt

ends_own : (asked : Asked) (was now : AsksIs) (old new : World) (answer : Answer) → Ends asked was now old new answer → IsSure old → IsSure new → was.faults ≡ 0 → now.faults ≡ 0 → IsOwn answer.fault
ends_own (First asked) was now old new answer ends sure later first last =
    elim ends [
      | inl s ↦ stopped_own _ old new answer s (unread_own file.Payments (RefusesRows (first_job asked.least)) old.shelf.files asked.payments old new s.why (of_rows (first_job asked.least)) sure later s.cause)
      | inr r ↦ run_own (files_written asked.alerts None None r.done) (run_lines r.done) old new answer.fault sure later r.outcome
    ]
ends_own (Check name) was now old new answer ends sure later first last =
    elim ends [
      | inl s ↦ stopped_own _ old new answer s (unread_own file.Job RefusesJob old.shelf.files name old new s.why of_job sure later s.cause)
      | inr (job, of, p) ↦ text_own (sizes_line job) old new answer p sure later
    ]
ends_own (Plan asked) was now old new answer ends sure later first last =
    elim ends [
      | inl s ↦ stopped_own _ old new answer s (no_setup_own asked old.shelf.files old new s.why sure later s.cause)
      | inr p ↦ prints_own (setup_lines p.setup) old.out new.out answer.fault sure.out later.out p.lines.prints
    ]
ends_own (Run asked) was now old new answer ends sure later first last =
    elim ends [
      | inl s ↦ stopped_own _ old new answer s (no_inputs_own asked.plan asked.payments old.shelf.files old new s.why sure later s.cause)
      | inr r ↦ run_own (files_written asked.alerts (Some asked.audit) None r.done) (run_lines r.done) old new answer.fault sure later r.outcome
    ]
ends_own (Make asked) was now old new answer ends sure later first last =
    elim ends [
      | inl s ↦ stopped_own _ old new answer s (not_made_own asked old.shelf.files old new s.why sure later s.cause)
      | inr r ↦ prints_own (made_lines r.done) old.out new.out answer.fault sure.out later.out r.lines.prints
    ]
ends_own (Save asked) was now old new answer ends sure later first last =
    elim ends [
      | inl s ↦ stopped_own _ old new answer s (no_inputs_own asked.run.plan asked.run.payments old.shelf.files old new s.why sure later s.cause)
      | inr r ↦ run_own (files_written asked.run.alerts (Some asked.run.audit) (Some asked.save) r.done) (run_lines r.done) old new answer.fault sure later r.outcome
    ]
ends_own (Resume asked) was now old new answer ends sure later first last =
    elim ends [
      | inl s ↦ stopped_own _ old new answer s (no_resume_own asked old.shelf.files old new s.why sure later s.cause)
      | inr (start, r) ↦ run_own (files_written asked.run.alerts (Some asked.run.audit) None r.done) (run_lines r.done) old new answer.fault sure later r.outcome
    ]
ends_own (Live asked) was now old new answer ends sure later first last =
    elim ends [
      | inl s ↦ stopped_own _ old new answer s.stops (no_inputs_own asked.plan asked.payments old.shelf.files old new s.stops.why sure later s.stops.cause)
      | inr r ↦ live_own r.live.heard.failed r.written answer.fault r.fault_is
          (run_own (files_written asked.alerts (Some asked.audit) None r.live.done) (live_lines r.live) old new r.written sure later r.outcome)
          (λ e. not_risen was.faults now.faults first last (r.is_so.run.heard.failed e))
    ]
ends_own (Verify asked) was now old new answer ends sure later first last =
    elim ends [
      | inl s ↦ stopped_own _ old new answer s (not_verified_own asked old.shelf.files old new s.why sure later s.cause)
      | inr p ↦ prints_own (verified_lines p.done) old.out new.out answer.fault sure.out later.out p.lines.prints
    ]
ends_own (Help about) was now old new answer ends sure later first last = text_own (help_of about) old new answer ends sure later
ends_own Version was now old new answer ends sure later first last = text_own version_line old new answer ends sure later

pub sure_calls : SureCallsEndWell
sure_calls was now old new answer answered sure later first last =
    own_status answer.fault answer.refused (elim answered [
      | inl a ↦ nothing_own old a.between answer a.ends
      | inr (asked, a) ↦ ends_own asked was now old a.between answer a.ends sure (sure_before answer.fault a.between new a.prints later) first last
    ])
