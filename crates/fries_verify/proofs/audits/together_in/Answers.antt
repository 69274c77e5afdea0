use Rattle.std.proofs.Common.{inl, refl, subst, sym}
use Rattle.audit_laws.specs.Fits.{csv_records}
use Rattle.audit_laws.specs.Verdict.{HasNoHeader}
use Rattle.jobs.specs.Job.{job_view}
use Rattle.fries_verify.proofs.StreamLemmas.{no_header}
use Rattle.fries_verify.proofs.audits.together_in.Goals as goal

pub returns-in-None-clause-fault : goal.returns-in-None-clause-fault
returns-in-None-clause-fault c = λ subject same.
    let none : HasNoHeader (csv_records c.args.text.now) =
    rw c.in-None.is at c.in_ok-one.ensures.none in
    inl (
      refl,
      subst HasNoHeader (sym same)
          (no_header (job_view c.args.job.now) (csv_records c.args.text.now) none),
    )
