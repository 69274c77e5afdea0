use Rattle.std.proofs.Common.{◌∙◌, ap, sym}
use Rattle.std.proofs.lemmas.Result.{err_from_is_err_and}
use Rattle.jobs.specs.Job.{job_view}
use Rattle.payments.specs.World.{ShelfState}
use Rattle.flow_model.specs.declared.setup.Setup.{Setup}
use Rattle.stream_call.proofs.UnopenedLemmas.{unsaved}
use Rattle.stream_call.proofs.resume.saved_in.Goals as goal

pub returns-clause-job : goal.returns-clause-job
returns-clause-job g c =
    c.in_ok-job.ensures
    ∙ (ap (λ (s : Setup). s.job) (c.into_inner-job.ensures ∙ c.in_ok-setup-2.ensures)
    ∙ (c.in_ok-setup.ensures ∙ c.into_inner.ensures))

pub returns-clause-read : goal.returns-clause-read
returns-clause-read g c = record {
  bytes = c.in_ok-text.text;
  read = c.in_ok-text.ensures.bytes;
  are_so = rw (
    c.in_ok-save-2.ensures,
    sym c.into_inner.ensures,
    sym c.in_ok-setup.ensures,
    sym c.in_ok-setup-2.ensures,
    sym c.deref-2.ensures,
    sym c.as_slice.ensures,
  ) c.in_ok-save.ensures.ok;
}

pub returns-clause-saved : goal.returns-clause-saved
returns-clause-saved g c =
    rw (
      c.in_ok-save-2.ensures,
      sym c.into_inner.ensures,
      sym c.in_ok-setup.ensures,
      sym c.in_ok-setup-2.ensures,
      sym c.deref.ensures,
    )
    (c.read_streams_can_be_saved.ensures c.as_slice.result.now c.in_ok-save.save
    (rw (c.deref.ensures, sym c.deref-2.ensures) c.in_ok-save.ensures.ok))

pub returns-in_err-save-clause-cause : goal.returns-in_err-save-clause-cause
returns-in_err-save-clause-cause g c =
    let fault =
    err_from_is_err_and c.from_residual-in_err-save.result c.from_residual-in_err-save.ensures.1 in
    rw (fault.1, fault.2)
    (unsaved _ c.args.name.now (job_view c.args.job.value) _ _ _
    (ap (λ (s : ShelfState). s.faults) c.in_ok-text.ensures.kept) (λ not. record {
      bytes = c.in_ok-text.text;
      read = c.in_ok-text.ensures.bytes;
      are_so = rw (
        sym c.into_inner.ensures,
        sym c.in_ok-setup.ensures,
        sym c.in_ok-setup-2.ensures,
        sym c.deref-2.ensures,
        sym c.as_slice.ensures,
      ) (c.in_err-save.ensures.fault not);
    }))
