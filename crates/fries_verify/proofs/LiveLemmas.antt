-- Setups and faults of runs of `live`, as their audits show them.
use Rattle.std.proofs.Common.{◌≡◌, ◌∙◌, ℕ, Bool, List, Option, Some, All, ap, subst, sym}
use Rattle.audit_fault.specs.declared.fault.AuditFault.{AuditFault}
use Rattle.audit_fault.specs.declared.fault.AuditFault.TheVariants as audit
use Rattle.jobs.specs.JobView.{JobView}
use Rattle.payments.specs.Causes.{Faults}
use Rattle.payments.specs.Files.{Files}
use Rattle.fries_lines.specs.Faults.{audit_fault}
use Rattle.fries_lines.specs.declared.fault.FileIs.TheVariants as file
use Rattle.sink_journal.specs.declared.journal.Feed.{Feed}
use Rattle.versions.specs.Judged.{judged, judged_within}
use Rattle.versions.specs.declared.in_order.Judged.{Judged}
use Rattle.versions.specs.declared.request.Request.{Request}
use Rattle.coordinator.specs.Feeding.{issue_rows}
use Rattle.flow_engine.specs.Recorded.{NoneIsEarly}
use Rattle.flow_model.specs.Least.{ArePlansLeast}
use Rattle.flow_model.specs.Planned.{IsExact, IsExactForStream}
use Rattle.flow_model.specs.Record.{record_view}
use Rattle.flow_model.specs.Run.{Ran}
use Rattle.flow_model.specs.Setup.{setup_view}
use Rattle.flow_model.specs.SetupView.{SetupView}
use Rattle.flow_model.specs.Waiting.{waiting_for, with_afters}
use Rattle.flow_model.specs.declared.setup.Setup.{Setup}
use Rattle.flow_laws.specs.Determined.{NumbersAllNodes}
use Rattle.fries_steps.specs.Live.{AreReleased}
use Rattle.fries_steps.specs.Reading.{IsRead}
use Rattle.fries_steps.specs.SetupFor.{AreSame, IsSetupFor, IsSetupWith}
use Rattle.fries_steps.specs.declared.running.Done.{Done}
use Rattle.fries_steps.proofs.FileLemmas.{same_bytes}
use Rattle.stream_intake.specs.Intake.{IsMaskOfNodes}
use Rattle.fries_verify.specs.Audits.{IsAuditedBy, IsAuditedRun, IsNoAudit, Subject}
use Rattle.fries_verify.specs.StreamSetup.{IsStreamSetupFor}
use Rattle.fries_verify.proofs.AuditLemmas.{IsFaultIn}
use Rattle.fries_steps.proofs.LiveLemmas.{exact_waiting, least_waiting}
use Rattle.fries_verify.proofs.WaitingLemmas.{stream_exact_waiting}

-- the setup with the waits of a feed is that of the job and the released requests, if such plans
-- don't go by what requests wait for
waiting_with : (Exact : SetupView → Type 0) → ((v : SetupView) (waits : List ℕ) → Exact v
    → Exact (waiting_for waits v)) → (ordered : Bool) (job : JobView) (verdicts : Judged)
    (rows : ℕ) (setup made : Setup) (feeds : List Feed)
    → IsSetupWith Exact AreSame ordered job verdicts setup →
    setup_view made ≡ waiting_for (issue_rows 0 feeds) (setup_view setup) →
    made.judged.refused ≡ setup.judged.refused →
    NoneIsEarly rows setup.judged.accepted
    (with_afters (issue_rows 0 feeds) setup.judged.accepted) →
    IsSetupWith Exact (AreReleased rows feeds) ordered job verdicts made
waiting_with Exact stays ordered job verdicts rows setup made feeds is same refused late =
    let waits = issue_rows 0 feeds in
    let kept : made.judged.accepted ≡ with_afters waits setup.judged.accepted =
    ap (λ (v : SetupView). v.requests) same in
    record {
      job_is = ap (λ (v : SetupView). v.job) same ∙ is.job_is;
      accepted = record {
        kept_are = kept ∙ ap (with_afters waits) is.accepted;
        not_early =
            subst (λ (qs : List Request). NoneIsEarly rows qs made.judged.accepted) is.accepted
            (subst (NoneIsEarly rows setup.judged.accepted) (sym kept) late);
      };
      refused = refused ∙ is.refused;
      exact = subst Exact (sym same) (stays (setup_view setup) waits is.exact);
      least = subst ArePlansLeast (sym same) (least_waiting (setup_view setup) waits is.least);
      numbers = subst (All NumbersAllNodes) (sym (ap (λ (v : SetupView). v.plans) same)) is.numbers;
      mode = ap (λ (v : SetupView). v.ordered) same ∙ is.mode;
    }

-- the setup of a run
pub setup_waiting : (ordered : Bool) (job : JobView) (requests : List Request) (rows : ℕ)
    (setup made : Setup) (feeds : List Feed) → IsSetupFor AreSame ordered job requests setup →
    setup_view made ≡ waiting_for (issue_rows 0 feeds) (setup_view setup) →
    made.judged.refused ≡ setup.judged.refused →
    NoneIsEarly rows setup.judged.accepted
    (with_afters (issue_rows 0 feeds) setup.judged.accepted) →
    IsSetupFor (AreReleased rows feeds) ordered job requests made
setup_waiting ordered job requests =
    waiting_with IsExact exact_waiting ordered job (judged job requests)

-- the setup of a stream
pub stream_waiting : (ordered : Bool) (job : JobView) (requests : List Request) (rows : ℕ)
    (setup made : Setup) (feeds : List Feed) → IsStreamSetupFor AreSame ordered job requests setup →
    setup_view made ≡ waiting_for (issue_rows 0 feeds) (setup_view setup) →
    made.judged.refused ≡ setup.judged.refused →
    NoneIsEarly rows setup.judged.accepted
    (with_afters (issue_rows 0 feeds) setup.judged.accepted) →
    IsStreamSetupFor (AreReleased rows feeds) ordered job requests made
stream_waiting ordered job requests rows setup made feeds is same refused late =
    let splits : made.splits ≡ setup.splits = ap (λ (v : SetupView). v.splits) same in
    record {
      made =
          subst (λ (mask : ℕ). IsSetupWith IsExactForStream (AreReleased rows feeds) ordered job
          (judged_within (Some mask) job requests) made) (sym splits)
          (waiting_with IsExactForStream stream_exact_waiting ordered job
          (judged_within (Some setup.splits) job requests) rows setup made feeds is.made same
          refused late);
      splits = subst (λ (mask : ℕ). IsMaskOfNodes job.nodes mask) (sym splits) is.splits;
    }

-- bytes that were read are refused for the fault that they have
pub refused_for : (subject : List ℕ → Subject) (files : Option Files) (name bytes : List ℕ)
    (old new : Faults) (code : AuditFault) → IsRead file.Audit files name bytes →
    IsFaultIn subject bytes code → new ≡ old →
    IsNoAudit files name subject old new (audit_fault code)
refused_for subject files name bytes old new audit.NoMemory read has same = same
refused_for subject files name bytes old new (audit.Shape i) read has same =
    (record { bytes = bytes; read = read; are_so = (λ e. absurd (cc e), has) }, same)
refused_for subject files name bytes old new (audit.Refused i) read has same =
    (record { bytes = bytes; read = read; are_so = (λ e. absurd (cc e), has) }, same)
refused_for subject files name bytes old new (audit.Feed i) read has same =
    (record { bytes = bytes; read = read; are_so = (λ e. absurd (cc e), has) }, same)
refused_for subject files name bytes old new (audit.Law w) read has same =
    (record { bytes = bytes; read = read; are_so = (λ e. absurd (cc e), has) }, same)
refused_for subject files name bytes old new (audit.Lane n) read has same =
    (record { bytes = bytes; read = read; are_so = (λ e. absurd (cc e), has) }, same)
refused_for subject files name bytes old new (audit.State w) read has same =
    (record { bytes = bytes; read = read; are_so = (λ e. absurd (cc e), has) }, same)

-- bytes that were read are the audit of this run, and the file tells no other
pub audited_for : (subject : List ℕ → Subject) (files : Option Files) (name bytes : List ℕ)
    (done : Done) → IsRead file.Audit files name bytes →
    IsAuditedBy (subject bytes) (record_view done.ran) →
    ((ran : Ran) → IsAuditedBy (subject bytes) ran → record_view done.ran ≡ ran) →
    IsAuditedRun files name subject done
audited_for subject files name bytes done read audited only = record {
  of_audit = record { bytes = bytes; read = read; are_so = audited };
  only = λ other tells.
      only other
      (subst (λ (b : List ℕ). IsAuditedBy (subject b) other)
      (sym (same_bytes file.Audit files name bytes tells.bytes read tells.told)) tells.are_so);
}
