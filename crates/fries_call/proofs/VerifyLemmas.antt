-- What the files of `verify` are answered by.
use Rattle.std.proofs.Common.{◌≡◌, ◌∙◌, ◌⊎◌, inl, inr, ℕ, Bool, List, Ok, Option, None, Some, length, sym, subst}
use Rattle.jobs.specs.Job.{job_view}
use Rattle.jobs.specs.JobView.{JobView}
use Rattle.job_file.specs.Job.{Excludes, HaveOneFault}
use Rattle.payments.specs.World.{World}
use Rattle.tuple_trace.specs.declared.row.Row.{Row}
use Rattle.versions.specs.declared.request.Request.{Request}
use Rattle.sink_journal.specs.Alerts.{alerts}
use Rattle.flow_model.specs.Begin.{Begin}
use Rattle.flow_model.specs.Record.{record_view}
use Rattle.flow_model.specs.Run.{Ran}
use Rattle.flow_model.specs.Setup.{setup_view}
use Rattle.flow_model.specs.declared.setup.Setup.{Setup}
use Rattle.payments.specs.Files.{Files}
use Rattle.savepoint.specs.SaveReading.{save_of}
use Rattle.fries_words.specs.Asked.{VerifyAsked}
use Rattle.fries_words.specs.declared.command.AuditOf.{AuditOf}
use Rattle.fries_words.specs.declared.command.AuditOf.TheVariants as audit
use Rattle.fries_lines.specs.declared.fault.Fault.{Fault}
use Rattle.fries_lines.specs.declared.fault.FileIs.TheVariants as file
use Rattle.fries_verify.specs.Audits.{FollowsAlerts, HoldsAlerts, HoldsNoAlerts, IsAudited, RefusesAlerts, RefusesAudit, Subject, TellsAlerts, TellsAudit, verified_lines}
use Rattle.fries_steps.specs.Effects.{IsExcused, PrintsFault}
use Rattle.fries_steps.specs.Reading.{FollowsFile, RefusesSave}
use Rattle.fries_steps.specs.Running.{alerts_of}
use Rattle.fries_steps.specs.declared.answer.Answer.{Answer}
use Rattle.fries_steps.specs.declared.running.Done.{Done}
use Rattle.fries_verify.proofs.AlertLemmas.{alerts_apart, alerts_sole}
use Rattle.fries_steps.proofs.FileLemmas.{done_or_excused, follows_excused, follows_read, follows_unread, no_start, sole_start, told_so, unread_excused}
use Rattle.fries_call.specs.Follows.{FollowsInputsThen, IsDoneOrExcused}
use Rattle.fries_call.specs.Inputs.{AreInputsOf}
use Rattle.fries_call.specs.Verify.{BeginsAt, EndsVerify, FollowsSave, FollowsVerdict, HasNoAudit, HasNoBegin, IsRestoredRun, IsSetupBy, TellsBegin, subject_by}
use Rattle.fries_call.proofs.FollowLemmas.{inputs_then, no_inputs_then}

-- ---- the alerts' file, if one is named

follows_excused_alerts : (name : Option (List ℕ)) (text : List ℕ) (old new : World) (answer : Option Fault) → IsExcused old new answer → FollowsAlerts name text old new answer
follows_excused_alerts None text old new answer why = tt
follows_excused_alerts (Some name) text old new answer why = follows_excused file.Alerts (RefusesAlerts text) name old new answer why

follows_read_alerts : (name : Option (List ℕ)) (text : List ℕ) (old new : World) (answer : Option Fault) → HoldsAlerts old.shelf.files name text → FollowsAlerts name text old new answer
follows_read_alerts None text old new answer holds = tt
follows_read_alerts (Some name) text old new answer holds = follows_read file.Alerts (λ bytes. bytes ≡ text) (RefusesAlerts text) name old new answer (alerts_apart text) holds

follows_no_alerts : (name : Option (List ℕ)) (text : List ℕ) (old between new : World) (why : Fault) → new.shelf ≡ between.shelf →
    HoldsNoAlerts old.shelf.files name text old.shelf.faults between.shelf.faults why → FollowsAlerts name text old new (Some why)
follows_no_alerts None text old between new why same unread = absurd unread
follows_no_alerts (Some name) text old between new why same unread = follows_unread file.Alerts (RefusesAlerts text) name old between new why (alerts_sole text) same unread

no_alerts_excused : (name : Option (List ℕ)) (text : List ℕ) (old between new : World) (why : Fault) → new.shelf ≡ between.shelf →
    TellsAlerts old.shelf.files name text → HoldsNoAlerts old.shelf.files name text old.shelf.faults between.shelf.faults why → IsExcused old new (Some why)
no_alerts_excused None text old between new why same tells unread = absurd unread
no_alerts_excused (Some name) text old between new why same tells unread =
    unread_excused file.Alerts (λ bytes. bytes ≡ text) (RefusesAlerts text) name old between new why (alerts_apart text) tells same unread

-- ---- each way in which the call ends

-- the text of the alerts of a run
abbrev text_of : Ran → List ℕ
text_of ran = alerts ran.setup.job ran.journals

-- what is so of the inputs
abbrev VerdictAfter : VerifyAsked → World → World → Option Fault → JobView → List Request → List Row → Type 0
VerdictAfter asked old new answer job requests rows = IsExcused old new answer ⊎ FollowsVerdict asked job requests rows old new answer

-- ---- the setup

-- it is one of the job
pub job_by : (of : AuditOf) (ordered : Bool) (job : JobView) (requests : List Request)
    (setup : Setup) → IsSetupBy of ordered job requests setup → job_view setup.job ≡ job
job_by audit.Run ordered job requests setup is = is.job_is
job_by audit.Live ordered job requests setup is = is.job_is
job_by audit.Stream ordered job requests setup is = is.made.job_is
job_by (audit.Resume save) ordered job requests setup is = is.job_is

-- ---- the beginning

-- the beginning that was read is the one that the file tells
same_begin : (of : AuditOf) (files : Option Files) (setup : Setup) (rows : List Row)
    (begin told : Begin) → BeginsAt of files setup rows begin →
    TellsBegin of files setup rows told → begin ≡ told
same_begin (audit.Resume save) files setup rows begin told begins tells =
    let is : save_of (setup_view setup) (length rows) tells.bytes ≡ Ok begin =
    told_so file.Save (λ bytes. save_of (setup_view setup) (length rows) bytes ≡ Ok begin) files save
    tells.bytes begins tells.told in
    let same : Ok begin ≡ Ok told = sym is ∙ tells.are_so in
    cc
same_begin _ files setup rows begin told begins tells = begins ∙ sym tells

-- a savepoint that was read
follows_begin : (of : AuditOf) (setup : Setup) (rows : List Row) (begin : Begin) (old new : World)
    (answer : Option Fault) → BeginsAt of old.shelf.files setup rows begin →
    FollowsSave of setup rows old new answer
follows_begin (audit.Resume save) setup rows begin old new answer begins =
    follows_read file.Save (λ bytes. save_of (setup_view setup) (length rows) bytes ≡ Ok begin)
    (RefusesSave (setup_view setup) (length rows)) save old new answer
    (no_start (setup_view setup) (length rows) begin) begins
follows_begin _ setup rows begin old new answer begins = tt

-- what is so of a call that read no savepoint
record HasNone (asked : VerifyAsked) (of : AuditOf) (old new : World) (answer : Option Fault)
    : Type 0 where
  pub job : JobView
  pub requests : List Request
  pub rows : List Row
  pub setup : Setup
  pub of_files : AreInputsOf old.shelf.files asked.plan asked.payments job requests rows
  pub setup_is : IsSetupBy of asked.plan.ordered job requests setup
  pub save : FollowsSave of setup rows old new answer
  pub excused :
      (begin : Begin) → TellsBegin of old.shelf.files setup rows begin → IsExcused old new answer

has_none : (asked : VerifyAsked) (of : AuditOf) (old between new : World) (why : Fault) →
    new.shelf ≡ between.shelf →
    HasNoBegin asked of old.shelf.files old.shelf.faults between.shelf.faults why →
    HasNone asked of old new (Some why)
has_none asked (audit.Resume save) old between new why same n =
    let mine = setup_view n.setup in
    let count = length n.rows in
    record {
      job = n.job;
      requests = n.requests;
      rows = n.rows;
      setup = n.setup;
      of_files = n.of_files;
      setup_is = n.setup_is;
      save =
          follows_unread file.Save (RefusesSave mine count) save old between new why
          (sole_start mine count) same n.unread;
      excused = λ begin tells.
          unread_excused file.Save (λ bytes. save_of mine count bytes ≡ Ok begin)
          (RefusesSave mine count) save old between new why (no_start mine count begin) tells same
          n.unread;
    }
has_none asked _ old between new why same n = absurd n

-- a call that read its inputs, and no savepoint
no_begin : (asked : VerifyAsked) (old new : World) (answer : Option Fault)
    (n : HasNone asked asked.of old new answer) →
    FollowsVerdict asked n.job n.requests n.rows old new answer
no_begin asked old new answer n = record {
  setup = n.setup;
  setup_is = n.setup_is;
  save = n.save;
  audit = λ begin tells.
      follows_excused file.Audit (RefusesAudit (subject_by asked.of begin n.setup n.rows))
      asked.audit old new answer (n.excused begin tells);
  of_alerts = λ begin ran tells told.
      follows_excused_alerts asked.alerts (text_of ran) old new answer (n.excused begin tells);
  done = λ begin ran tells told holds. inr (n.excused begin tells);
}

-- ---- the audit

-- a call that read its inputs and a beginning, and no audit
no_audit : (asked : VerifyAsked) (old between new : World) (why : Fault) →
    new.shelf ≡ between.shelf →
    (n : HasNoAudit asked old.shelf.files old.shelf.faults between.shelf.faults why) →
    FollowsVerdict asked n.job n.requests n.rows old new (Some why)
no_audit asked old between new why same n =
    let by : Begin → List ℕ → Subject = λ begin. subject_by asked.of begin n.setup n.rows in
    let one : (begin : Begin) → TellsBegin asked.of old.shelf.files n.setup n.rows begin →
    n.begin ≡ begin =
    λ begin tells. same_begin asked.of old.shelf.files n.setup n.rows n.begin begin n.begins tells in
    let excused : (begin : Begin) (ran : Ran) →
    TellsBegin asked.of old.shelf.files n.setup n.rows begin →
    TellsAudit old.shelf.files asked.audit (by begin) ran → IsExcused old new (Some why) =
    λ begin ran tells told.
    unread_excused file.Audit (IsAudited (by n.begin) ran) (RefusesAudit (by n.begin))
    asked.audit old between new why (n.verdict.apart ran)
    (subst (λ (b : Begin). TellsAudit old.shelf.files asked.audit (by b) ran)
    (sym (one begin tells)) told) same n.unread in
    record {
      setup = n.setup;
      setup_is = n.setup_is;
      save = follows_begin asked.of n.setup n.rows n.begin old new (Some why) n.begins;
      audit = λ begin tells.
          subst (λ (b : Begin). FollowsFile file.Audit (RefusesAudit (by b)) asked.audit old new
          (Some why)) (one begin tells)
          (follows_unread file.Audit (RefusesAudit (by n.begin)) asked.audit old between new why
          n.verdict.sole same n.unread);
      of_alerts = λ begin ran tells told.
          follows_excused_alerts asked.alerts (text_of ran) old new (Some why)
          (excused begin ran tells told);
      done = λ begin ran tells told holds. inr (excused begin ran tells told);
    }

-- a call that restored the run: what is left to see is the alerts' file, and that the call is done
follows_restored : Excludes → (asked : VerifyAsked) (old new : World) (answer : Option Fault)
    (done : Done) → IsRestoredRun asked old.shelf.files done →
    FollowsAlerts asked.alerts (alerts_of done) old new answer →
    (TellsAlerts old.shelf.files asked.alerts (alerts_of done) → IsDoneOrExcused old new answer) →
    FollowsInputsThen asked.plan asked.payments (VerdictAfter asked old new answer) old new answer
follows_restored excludes asked old new answer done of alerts ends =
    let setup = of.setup in
    let by : Begin → List ℕ → Subject = λ begin. subject_by asked.of begin setup of.rows in
    let one : (begin : Begin) → TellsBegin asked.of old.shelf.files setup of.rows begin →
    of.begin ≡ begin =
    λ begin tells.
    same_begin asked.of old.shelf.files setup of.rows of.begin begin of.begins tells in
    let same : (begin : Begin) (ran : Ran) →
    TellsBegin asked.of old.shelf.files setup of.rows begin →
    TellsAudit old.shelf.files asked.audit (by begin) ran → record_view done.ran ≡ ran =
    λ begin ran tells told.
    of.audited.only ran
    (subst (λ (b : Begin). TellsAudit old.shelf.files asked.audit (by b) ran)
    (sym (one begin tells)) told) in
    inputs_then excludes asked.plan asked.payments (VerdictAfter asked old new answer) old new answer
    of.job of.requests of.rows of.of_files (inr (record {
      setup = setup;
      setup_is = of.setup_is;
      save = follows_begin asked.of setup of.rows of.begin old new answer of.begins;
      audit = λ begin tells.
          subst (λ (b : Begin). FollowsFile file.Audit (RefusesAudit (by b)) asked.audit old new
          answer) (one begin tells)
          (follows_read file.Audit (IsAudited (by of.begin) (record_view done.ran))
          (RefusesAudit (by of.begin)) asked.audit old new answer
          (of.verdict.apart (record_view done.ran)) of.audited.of_audit);
      of_alerts = λ begin ran tells told.
          subst (λ (r : Ran). FollowsAlerts asked.alerts (text_of r) old new answer)
          (same begin ran tells told) alerts;
      done = λ begin ran tells told holds.
          ends (subst (λ (r : Ran). TellsAlerts old.shelf.files asked.alerts (text_of r))
          (sym (same begin ran tells told)) holds);
    }))

pub follows_verify : Excludes → HaveOneFault → (asked : VerifyAsked) (old between new : World)
    (answer : Answer) → EndsVerify asked old between answer →
    PrintsFault answer.fault between new →
    FollowsInputsThen asked.plan asked.payments
    (λ job requests rows. IsExcused old new answer.fault
    ⊎ FollowsVerdict asked job requests rows old new answer.fault) old new answer.fault
follows_verify excludes have asked old between new answer ends prints =
    elim ends [
      | inl s ↦
          let then = VerdictAfter asked old new (Some s.why) in
          subst (λ (x : Answer). FollowsInputsThen asked.plan asked.payments
          (VerdictAfter asked old new x.fault) old new x.fault) (sym s.answer_is) (elim s.cause [
            | inl (inl none) ↦
                no_inputs_then excludes have asked.plan asked.payments then old between new s.why
                prints.shelf none (λ job requests rows excused. inl excused)
            | inl (inr (inl none)) ↦
                let n = has_none asked asked.of old between new s.why prints.shelf none in
                inputs_then excludes asked.plan asked.payments then old new (Some s.why) n.job
                n.requests n.rows n.of_files (inr (no_begin asked old new (Some s.why) n))
            | inl (inr (inr n)) ↦
                inputs_then excludes asked.plan asked.payments then old new (Some s.why) n.job
                n.requests n.rows n.of_files (inr (no_audit asked old between new s.why prints.shelf n))
            | inr o ↦
                follows_restored excludes asked old new (Some s.why) o.done o.restored
                (follows_no_alerts asked.alerts (alerts_of o.done) old between new s.why prints.shelf
                o.unread)
                (λ holds. inr (no_alerts_excused asked.alerts (alerts_of o.done) old between new s.why
                prints.shelf holds o.unread))
          ])
      | inr p ↦
          follows_restored excludes asked old new answer.fault p.done p.is_so.restored
          (follows_read_alerts asked.alerts (alerts_of p.done) old new answer.fault p.is_so.of_alerts)
          (λ holds. done_or_excused (verified_lines p.done) old between new answer.fault p.lines.prints
          prints)
    ]
