-- What a call of `verify` restores, why it doesn't, and how it ends.
use Rattle.std.specs.Prelude.{◌≡◌, ◌⊎◌, ⊤, ℕ, Bool, List, Option, length}
use Rattle.jobs.specs.JobView.{JobView}
use Rattle.payments.specs.Causes.{Faults}
use Rattle.payments.specs.Files.{Files}
use Rattle.payments.specs.World.{World}
use Rattle.tuple_trace.specs.declared.row.Row.{Row}
use Rattle.versions.specs.declared.request.Request.{Request}
use Rattle.flow_model.specs.Begin.{Begin, at_first}
use Rattle.flow_model.specs.Run.{Ran}
use Rattle.flow_model.specs.Setup.{setup_view}
use Rattle.flow_model.specs.declared.setup.Setup.{Setup}
use Rattle.fries_words.specs.Asked.{VerifyAsked}
use Rattle.fries_words.specs.declared.command.AuditOf.{AuditOf}
use Rattle.fries_words.specs.declared.command.AuditOf.TheVariants as audit
use Rattle.fries_lines.specs.declared.fault.Fault.{Fault}
use Rattle.fries_lines.specs.declared.fault.FileIs.TheVariants as file
use Rattle.sink_journal.specs.Alerts.{alerts}
use Rattle.fries_steps.specs.Live.{AreReleased}
use Rattle.fries_steps.specs.Outcomes.{StopsFor}
use Rattle.fries_steps.specs.Parts.{IsRunFromStart}
use Rattle.fries_steps.specs.Reading.{FollowsFile, IsStartIn, RefusesSave, TellsStart}
use Rattle.fries_steps.specs.Running.{IsRunOf, alerts_of}
use Rattle.fries_steps.specs.SetupFor.{AreSame, IsSetupFor}
use Rattle.fries_steps.specs.declared.answer.Answer.{Answer}
use Rattle.fries_steps.specs.declared.running.Done.{Done}
use Rattle.fries_verify.specs.Audits.{AreShown, AreStreamsShown, FollowsAlerts, HaveOneVerdict}
use Rattle.fries_verify.specs.Audits.{HoldsAlerts, HoldsNoAlerts, IsAuditedRun, IsNoAudit}
use Rattle.fries_verify.specs.Audits.{RefusesAudit, Subject, TellsAlerts, TellsAudit}
use Rattle.fries_verify.specs.Audits.{later_subject, live_subject, stream_subject, subject_of}
use Rattle.fries_verify.specs.Audits.{verified_lines}
use Rattle.fries_verify.specs.StreamSetup.{IsStreamRunOf, IsStreamSetupFor}
use Rattle.fries_call.specs.Follows.{IsDoneOrExcused}
use Rattle.fries_call.specs.Inputs.{AreInputsOf, AreNoInputs}
use Rattle.fries_call.specs.Prints.{PrintsRun}
use Rattle.fries_call.specs.Resume.{HasNoStart}

-- ---- the runs of the command whose audit is looked at

-- where a run begins: that of `resume` where its savepoint's file says, and others at first
abbrev pub BeginsAt : AuditOf → Option Files → Setup → List Row → Begin → Type 0
BeginsAt (audit.Resume save) files setup rows begin =
    IsStartIn files save (setup_view setup) (length rows) begin
BeginsAt _ files setup rows begin = begin ≡ at_first (setup_view setup)

-- the setup by which that command runs
abbrev pub IsSetupBy : AuditOf → Bool → JobView → List Request → Setup → Type 0
IsSetupBy audit.Stream ordered job requests setup =
    IsStreamSetupFor AreSame ordered job requests setup
IsSetupBy _ ordered job requests setup = IsSetupFor AreSame ordered job requests setup

-- what the audit's bytes are to be the audit of
abbrev pub subject_by : AuditOf → Begin → Setup → List Row → List ℕ → Subject
subject_by audit.Run begin setup rows = subject_of setup rows
subject_by audit.Live begin setup rows = live_subject setup rows
subject_by audit.Stream begin setup rows = stream_subject setup rows
subject_by (audit.Resume save) begin setup rows = later_subject begin setup rows

-- the record is a run of that command, over this job, these requests and these rows
abbrev pub IsRunBy :
    AuditOf → Bool → JobView → List Request → List Row → Begin → Done → Type 0
IsRunBy audit.Run ordered job requests rows begin done =
    IsRunOf AreSame ordered job requests rows done
IsRunBy audit.Live ordered job requests rows begin done =
    IsRunOf (AreReleased (length rows) done.ran.feeds) ordered job requests rows done
IsRunBy audit.Stream ordered job requests rows begin done =
    IsStreamRunOf (AreReleased (length rows) done.ran.feeds) ordered job requests rows done
IsRunBy (audit.Resume save) ordered job requests rows begin done =
    IsSetupFor AreSame ordered job requests done.ran.setup
    × IsRunFromStart begin done.ran.setup requests rows done

-- whatever waits make a run of `live` or of `stream`, those that its audit shows do
abbrev pub AreShownBy : AuditOf → Setup → List Row → Type 0
AreShownBy audit.Live setup rows = AreShown setup rows
AreShownBy audit.Stream setup rows = AreStreamsShown setup rows
AreShownBy _ setup rows = ⊤

-- ---- what is restored

-- The record is the run of what the files hold whose audit the audit's file holds. That file holds
-- the audit of no other run of the same setup, rows and beginning.
pub record IsRestoredRun (asked : VerifyAsked) (files : Option Files) (done : Done) : Type 0 where
  pub job : JobView
  pub requests : List Request
  pub rows : List Row
  pub setup : Setup
  pub begin : Begin
  pub of_files : AreInputsOf files asked.plan asked.payments job requests rows
  pub setup_is : IsSetupBy asked.of asked.plan.ordered job requests setup
  pub begins : BeginsAt asked.of files setup rows begin
  pub run : IsRunBy asked.of asked.plan.ordered job requests rows begin done
  pub audited : IsAuditedRun files asked.audit (subject_by asked.of begin setup rows) done
  pub verdict : HaveOneVerdict (subject_by asked.of begin setup rows)
  pub shown : AreShownBy asked.of setup rows

-- the record is the run that the audit tells, and the alerts' file, if one is named, holds just the
-- text of its alerts
pub record IsVerifiedRun (asked : VerifyAsked) (files : Option Files) (done : Done) : Type 0 where
  pub restored : IsRestoredRun asked files done
  pub of_alerts : HoldsAlerts files asked.alerts (alerts_of done)

-- ---- why nothing is

-- the savepoint's file, where the audit is one of `resume`, holds no beginning, for this fault
abbrev pub HasNoBegin : VerifyAsked → AuditOf → Option Files → Faults → Faults → Fault → Type 0
HasNoBegin asked (audit.Resume save) files old new why =
    HasNoStart asked.plan.ordered asked.plan asked.payments save files old new why
HasNoBegin asked _ files old new why = ⊥

-- the files hold a job, requests and rows, and a beginning, and the audit's file holds no audit of
-- a run of them, for this fault
pub record HasNoAudit (asked : VerifyAsked) (files : Option Files) (old new : Faults) (why : Fault)
    : Type 0 where
  pub job : JobView
  pub requests : List Request
  pub rows : List Row
  pub setup : Setup
  pub begin : Begin
  pub of_files : AreInputsOf files asked.plan asked.payments job requests rows
  pub setup_is : IsSetupBy asked.of asked.plan.ordered job requests setup
  pub begins : BeginsAt asked.of files setup rows begin
  pub unread : IsNoAudit files asked.audit (subject_by asked.of begin setup rows) old new why
  pub verdict : HaveOneVerdict (subject_by asked.of begin setup rows)
  pub shown : AreShownBy asked.of setup rows

-- the run was restored, and the alerts' file holds another text than that of its alerts, or wasn't
-- read, for this fault
pub record HasOtherAlerts (asked : VerifyAsked) (files : Option Files) (old new : Faults)
    (why : Fault) : Type 0 where
  pub done : Done
  pub restored : IsRestoredRun asked files done
  pub unread : HoldsNoAlerts files asked.alerts (alerts_of done) old new why

-- why no run is restored: no job, no requests or no rows were read, or else no savepoint, or else
-- no audit
abbrev pub IsNotRestored : VerifyAsked → Option Files → Faults → Faults → Fault → Type 0
IsNotRestored asked files old new why =
    AreNoInputs files asked.plan asked.payments old new why
    ⊎ (HasNoBegin asked asked.of files old new why ⊎ HasNoAudit asked files old new why)

-- why no run is verified: none is restored, or else the alerts aren't its
abbrev pub IsNotVerified : VerifyAsked → Option Files → Faults → Faults → Fault → Type 0
IsNotVerified asked files old new why =
    IsNotRestored asked files old new why ⊎ HasOtherAlerts asked files old new why

-- ---- how it ends

-- how a call of `verify` ends, before the line of its fault is printed
abbrev pub EndsVerify : VerifyAsked → World → World → Answer → Type 0
EndsVerify asked old new answer =
    StopsFor (IsNotVerified asked old.shelf.files) old new answer
    ⊎ PrintsRun (IsVerifiedRun asked old.shelf.files) verified_lines old new answer

-- the savepoint's file, where the audit is one of `resume`, is answered by what it holds
abbrev pub FollowsSave : AuditOf → Setup → List Row → World → World → Option Fault → Type 0
FollowsSave (audit.Resume save) setup rows old new answer =
    FollowsFile file.Save (RefusesSave (setup_view setup) (length rows)) save old new answer
FollowsSave _ setup rows old new answer = ⊤

-- the run begins here, as a file that is told has it
abbrev pub TellsBegin : AuditOf → Option Files → Setup → List Row → Begin → Type 0
TellsBegin (audit.Resume save) files setup rows begin =
    TellsStart files save (setup_view setup) (length rows) begin
TellsBegin _ files setup rows begin = begin ≡ at_first (setup_view setup)

-- A savepoint's file is answered by what it holds, seen by the setup of the job and its requests.
-- So is the audit's file, if there is a beginning. If it tells a run, the alerts' file is answered
-- by what it holds. If that is the text of the run's alerts, or no alerts are named, the call is
-- done or excused.
pub record FollowsVerdict (asked : VerifyAsked) (job : JobView) (requests : List Request)
    (rows : List Row) (old new : World) (answer : Option Fault) : Type 0 where
  pub setup : Setup
  pub setup_is : IsSetupBy asked.of asked.plan.ordered job requests setup
  pub save : FollowsSave asked.of setup rows old new answer
  pub audit :
      (begin : Begin) → TellsBegin asked.of old.shelf.files setup rows begin →
      FollowsFile file.Audit (RefusesAudit (subject_by asked.of begin setup rows)) asked.audit
      old new answer
  pub of_alerts :
      (begin : Begin) (ran : Ran) → TellsBegin asked.of old.shelf.files setup rows begin →
      TellsAudit old.shelf.files asked.audit (subject_by asked.of begin setup rows) ran →
      FollowsAlerts asked.alerts (alerts ran.setup.job ran.journals) old new answer
  pub done :
      (begin : Begin) (ran : Ran) → TellsBegin asked.of old.shelf.files setup rows begin →
      TellsAudit old.shelf.files asked.audit (subject_by asked.of begin setup rows) ran →
      TellsAlerts old.shelf.files asked.alerts (alerts ran.setup.job ran.journals) →
      IsDoneOrExcused old new answer
