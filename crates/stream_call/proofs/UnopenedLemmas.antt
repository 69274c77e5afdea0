-- Why a stream isn't opened.
use Rattle.std.proofs.Common.{◌≡◌, ◌≢◌, ℕ, List, Option, Some, Err, inl, inr, length}
use Rattle.std.proofs.Common.{subst}
use Rattle.std.proofs.Common.{sym}
use Rattle.jobs.specs.JobView.{JobView}
use Rattle.payments.specs.Causes.{Faults}
use Rattle.payments.specs.Files.{Files}
use Rattle.versions.specs.declared.request.Request.{Request}
use Rattle.fries_lines.specs.declared.fault.FileIs.TheVariants as file
use Rattle.fries_steps.specs.Reading.{HasReadFile, IsJobOf}
use Rattle.stream_save.specs.StreamReading.{stream_save_of}
use Rattle.stream_save.specs.StreamText.{StreamSave}
use Rattle.stream_save.specs.declared.fault.StreamSaveFault.{StreamSaveFault}
use Rattle.stream_save.specs.declared.fault.StreamSaveFault.TheVariants as save
use Rattle.stream_intake.specs.Intake.{IsMaskOfNodes}
use Rattle.fries_words.specs.declared.stream.StreamFiles.{StreamFiles}
use Rattle.stream_call.specs.Faults.{save_fault_of}
use Rattle.stream_call.specs.Opened.{AreStreamRequestsOf, IsStreamSaveOf, Resume, resume_of}
use Rattle.stream_call.specs.Unopened.{AreUnmade, IsNoStreamSave, IsShorter, StaysUncut, NoFit, NoMemory}
use Rattle.stream_call.specs.Unopened.{ShortAlerts}
use Rattle.stream_call.specs.Unopened.{ShortAudit, TellNoStream, TurnedTooMany, Unwritten}
use Rattle.stream_call.specs.declared.fault.StreamFault.{StreamFault}
use Rattle.stream_call.specs.declared.fault.StreamFault.TheVariants as stream

-- the bytes of the file are no savepoint
pub unsaved : (files : Option Files) (name : List ℕ) (job : JobView) (old new : Faults)
    (why : StreamSaveFault) → new ≡ old
    → (why ≢ save.NoMemory
    → HasReadFile file.Save (λ bytes. stream_save_of job bytes ≡ Err why) files name)
    → IsNoStreamSave files name job old new (save_fault_of why)
unsaved files name job old new save.NoMemory same is = same
unsaved files name job old new (save.Shape number) same is =
    (λ e. absurd (cc e), is (λ e. absurd (cc e)), same)
unsaved files name job old new (save.Past row) same is =
    (λ e. absurd (cc e), is (λ e. absurd (cc e)), same)
unsaved files name job old new (save.Count number) same is =
    (λ e. absurd (cc e), is (λ e. absurd (cc e)), same)
unsaved files name job old new (save.State number) same is =
    (λ e. absurd (cc e), is (λ e. absurd (cc e)), same)
unsaved files name job old new (save.Alerts length) same is =
    (λ e. absurd (cc e), is (λ e. absurd (cc e)), same)
unsaved files name job old new (save.Audit length) same is =
    (λ e. absurd (cc e), is (λ e. absurd (cc e)), same)

-- the savepoint turned more requests than are accepted, or memory ran out
module _ (asked : StreamFiles) (files : Option Files) (old new : Faults) (job : JobView)
    (requests : List Request) (resume : Resume) (saved : StreamSave)
    (is_job : IsJobOf files asked.plan.job job)
    (are : AreStreamRequestsOf files asked.plan.requests job requests)
    (resumed : resume_of asked.saving ≡ Some resume)
    (read : IsStreamSaveOf files resume.save job saved) (same : new ≡ old) where
  abbrev Misses : StreamSaveFault → Type 0
  Misses why = why ≢ save.NoMemory → (splits : ℕ) → IsMaskOfNodes job.nodes splits
      → TurnedTooMany splits job requests saved why

  pub unfit : (why : StreamSaveFault) → Misses why
      → TellNoStream asked files old new (save_fault_of why)
  unfit save.NoMemory is = NoMemory same
  unfit (save.Shape number) is =
      NoFit job requests resume saved (stream.Save (save.Shape number)) is_job are resumed read
      (is (λ e. absurd (cc e)))
  unfit (save.Past row) is =
      NoFit job requests resume saved (stream.Save (save.Past row)) is_job are resumed read
      (is (λ e. absurd (cc e)))
  unfit (save.Count number) is =
      NoFit job requests resume saved (stream.Save (save.Count number)) is_job are resumed read
      (is (λ e. absurd (cc e)))
  unfit (save.State number) is =
      NoFit job requests resume saved (stream.Save (save.State number)) is_job are resumed read
      (is (λ e. absurd (cc e)))
  unfit (save.Alerts length) is =
      NoFit job requests resume saved (stream.Save (save.Alerts length)) is_job are resumed read
      (is (λ e. absurd (cc e)))
  unfit (save.Audit length) is =
      NoFit job requests resume saved (stream.Save (save.Audit length)) is_job are resumed read
      (is (λ e. absurd (cc e)))

pub uncut-alerts : (asked : StreamFiles) (files : Option Files) (old new : Faults) (size : ℕ)
    (why : StreamFault)
    → StaysUncut file.Alerts asked.alerts (IsShorter files asked.alerts size (save.Alerts size)) old new
    why → AreUnmade asked files old new why
uncut-alerts asked files old new size why (inl (is, short)) =
    subst (λ (w : StreamFault). AreUnmade asked files old new w) (sym is) (ShortAlerts size short)
uncut-alerts asked files old new size why (inr (f, is, inl cause)) =
    subst (λ (w : StreamFault). AreUnmade asked files old new w) (sym is) (Unwritten f (inl cause))
uncut-alerts asked files old new size why (inr (f, is, inr none)) =
    subst (λ (w : StreamFault). AreUnmade asked files old new w) (sym is)
    (Unwritten f (inr (inr (inr none))))

pub uncut-audit : (asked : StreamFiles) (files : Option Files) (old new : Faults) (size : ℕ)
    (why : StreamFault)
    → StaysUncut file.Audit asked.audit (IsShorter files asked.audit size (save.Audit size)) old new why
    → AreUnmade asked files old new why
uncut-audit asked files old new size why (inl (is, short)) =
    subst (λ (w : StreamFault). AreUnmade asked files old new w) (sym is) (ShortAudit size short)
uncut-audit asked files old new size why (inr (f, is, inl cause)) =
    subst (λ (w : StreamFault). AreUnmade asked files old new w) (sym is)
    (Unwritten f (inr (inl cause)))
uncut-audit asked files old new size why (inr (f, is, inr none)) =
    subst (λ (w : StreamFault). AreUnmade asked files old new w) (sym is)
    (Unwritten f (inr (inr (inr none))))
