use Rattle.std.proofs.Common.{inl, inr, refl, subst, sym}
use Rattle.std.proofs.lemmas.Result.{IfErr-weaker, err_from_is_err_and}
use Rattle.flow_model.specs.Begin.{at_first}
use Rattle.flow_model.specs.Setup.{setup_view}
use Rattle.jobs.specs.Job.{job_view}
use Rattle.jobs.specs.JobView.{JobView}
use Rattle.jobs.specs.Nodes.{AreFromSources}
use Rattle.flow_runners.proofs.Crewing.{both_ok}
use Rattle.flow_model.specs.declared.setup.Setup.{Setup}
use Rattle.fries_steps.specs.Parts.{IsRunFromStart}
use Rattle.fries_steps.specs.SetupFor.{AreSame, IsSetupFor}
use Rattle.fries_steps.proofs.StartLemmas.{save_suits}
use Rattle.fries_call.proofs.VerifyLemmas.{job_by}
use Rattle.fries_call.proofs.verify.rebuild.Goals as goal

pub returns-in-Run-clause-run : goal.returns-in-Run-clause-run
returns-in-Run-clause-run g c =
    both_ok c.audited_run.result _ _ _ (λ done audited run. record {
      job = job_view c.in_ok-inputs.inputs.job;
      requests = c.in_ok-inputs.inputs.requests;
      rows = c.in_ok-inputs.inputs.rows;
      setup = c.in_ok-setup.setup;
      begin = at_first (setup_view c.in_ok-setup.setup);
      of_files = c.in_ok-inputs.ensures.inputs;
      setup_is = c.in_ok-setup.ensures;
      begins = rw c.in-Run.is refl;
      run = rw c.in-Run.is (run _ _ (rw c.in-Run.is at c.in_ok-setup.ensures));
      audited = rw c.in-Run.is (rw c.in_ok-inputs.ensures.kept at audited);
      verdict = rw c.in-Run.is c.audited_run.ensures.verdict;
      shown = rw c.in-Run.is tt;
    }) c.audited_run.ensures.audited c.audited_run.ensures.run

pub returns-in-Run-clause-cause : goal.returns-in-Run-clause-cause
returns-in-Run-clause-cause g c =
    IfErr-weaker c.audited_run.result _ _ (λ why unread. inr (inr (record {
      job = job_view c.in_ok-inputs.inputs.job;
      requests = c.in_ok-inputs.inputs.requests;
      rows = c.in_ok-inputs.inputs.rows;
      setup = c.in_ok-setup.setup;
      begin = at_first (setup_view c.in_ok-setup.setup);
      of_files = c.in_ok-inputs.ensures.inputs;
      setup_is = c.in_ok-setup.ensures;
      begins = rw c.in-Run.is refl;
      unread = rw c.in-Run.is (rw c.in_ok-inputs.ensures.kept at unread);
      verdict = rw c.in-Run.is c.audited_run.ensures.verdict;
      shown = rw c.in-Run.is tt;
    }))) c.audited_run.ensures.cause

pub audited_run-requires : goal.audited_run-requires
audited_run-requires g c = record {
  sources =
      subst (λ (j : JobView). AreFromSources j c.in_ok-inputs.inputs.rows)
      (sym (job_by c.args.files.now.of _ _ _ _ c.in_ok-setup.ensures))
      c.in_ok-inputs.ensures.sources;
}

pub returns-in-Live-clause-run : goal.returns-in-Live-clause-run
returns-in-Live-clause-run g c =
    both_ok c.audited_live_run.result _ _ _ (λ done audited run. record {
      job = job_view c.in_ok-inputs.inputs.job;
      requests = c.in_ok-inputs.inputs.requests;
      rows = c.in_ok-inputs.inputs.rows;
      setup = c.in_ok-setup.setup;
      begin = at_first (setup_view c.in_ok-setup.setup);
      of_files = c.in_ok-inputs.ensures.inputs;
      setup_is = c.in_ok-setup.ensures;
      begins = rw c.in-Live.is refl;
      run = rw c.in-Live.is (run _ _ (rw c.in-Live.is at c.in_ok-setup.ensures));
      audited = rw c.in-Live.is (rw c.in_ok-inputs.ensures.kept at audited);
      verdict = rw c.in-Live.is c.audited_live_run.ensures.verdict;
      shown = rw c.in-Live.is c.audited_live_run.ensures.shown;
    }) c.audited_live_run.ensures.audited c.audited_live_run.ensures.run

pub returns-in-Live-clause-cause : goal.returns-in-Live-clause-cause
returns-in-Live-clause-cause g c =
    IfErr-weaker c.audited_live_run.result _ _ (λ why unread. inr (inr (record {
      job = job_view c.in_ok-inputs.inputs.job;
      requests = c.in_ok-inputs.inputs.requests;
      rows = c.in_ok-inputs.inputs.rows;
      setup = c.in_ok-setup.setup;
      begin = at_first (setup_view c.in_ok-setup.setup);
      of_files = c.in_ok-inputs.ensures.inputs;
      setup_is = c.in_ok-setup.ensures;
      begins = rw c.in-Live.is refl;
      unread = rw c.in-Live.is (rw c.in_ok-inputs.ensures.kept at unread);
      verdict = rw c.in-Live.is c.audited_live_run.ensures.verdict;
      shown = rw c.in-Live.is c.audited_live_run.ensures.shown;
    }))) c.audited_live_run.ensures.cause

pub audited_live_run-requires : goal.audited_live_run-requires
audited_live_run-requires g c = record {
  sources =
      subst (λ (j : JobView). AreFromSources j c.in_ok-inputs.inputs.rows)
      (sym (job_by c.args.files.now.of _ _ _ _ c.in_ok-setup.ensures))
      c.in_ok-inputs.ensures.sources;
}

pub returns-in-Stream-clause-run : goal.returns-in-Stream-clause-run
returns-in-Stream-clause-run g c =
    both_ok c.audited_stream.result _ _ _ (λ done audited run. record {
      job = job_view c.in_ok-inputs.inputs.job;
      requests = c.in_ok-inputs.inputs.requests;
      rows = c.in_ok-inputs.inputs.rows;
      setup = c.in_ok-setup.setup;
      begin = at_first (setup_view c.in_ok-setup.setup);
      of_files = c.in_ok-inputs.ensures.inputs;
      setup_is = c.in_ok-setup.ensures;
      begins = rw c.in-Stream.is refl;
      run = rw c.in-Stream.is (run _ _ (rw c.in-Stream.is at c.in_ok-setup.ensures));
      audited = rw c.in-Stream.is (rw c.in_ok-inputs.ensures.kept at audited);
      verdict = rw c.in-Stream.is c.audited_stream.ensures.verdict;
      shown = rw c.in-Stream.is c.audited_stream.ensures.shown;
    }) c.audited_stream.ensures.audited c.audited_stream.ensures.run

pub returns-in-Stream-clause-cause : goal.returns-in-Stream-clause-cause
returns-in-Stream-clause-cause g c =
    IfErr-weaker c.audited_stream.result _ _ (λ why unread. inr (inr (record {
      job = job_view c.in_ok-inputs.inputs.job;
      requests = c.in_ok-inputs.inputs.requests;
      rows = c.in_ok-inputs.inputs.rows;
      setup = c.in_ok-setup.setup;
      begin = at_first (setup_view c.in_ok-setup.setup);
      of_files = c.in_ok-inputs.ensures.inputs;
      setup_is = c.in_ok-setup.ensures;
      begins = rw c.in-Stream.is refl;
      unread = rw c.in-Stream.is (rw c.in_ok-inputs.ensures.kept at unread);
      verdict = rw c.in-Stream.is c.audited_stream.ensures.verdict;
      shown = rw c.in-Stream.is c.audited_stream.ensures.shown;
    }))) c.audited_stream.ensures.cause

pub audited_stream-requires : goal.audited_stream-requires
audited_stream-requires g c = record {
  sources =
      subst (λ (j : JobView). AreFromSources j c.in_ok-inputs.inputs.rows)
      (sym (job_by c.args.files.now.of _ _ _ _ c.in_ok-setup.ensures))
      c.in_ok-inputs.ensures.sources;
}

pub returns-in_err-start-in-Resume-clause-cause : goal.returns-in_err-start-in-Resume-clause-cause
returns-in_err-start-in-Resume-clause-cause g c =
    let unread =
    rw (c.len.ensures, c.in_ok-inputs.ensures.kept) at c.in_err-start-in-Resume.ensures.cause in
    let fault =
    err_from_is_err_and c.from_residual-in_err-start-in-Resume.result
    c.from_residual-in_err-start-in-Resume.ensures.1 in
    rw (fault.1, fault.2) (inr (inl (rw c.in-Resume.is (record {
      job = job_view c.in_ok-inputs.inputs.job;
      requests = c.in_ok-inputs.inputs.requests;
      rows = c.in_ok-inputs.inputs.rows;
      setup = c.in_ok-setup.setup;
      of_files = c.in_ok-inputs.ensures.inputs;
      setup_is = rw c.in-Resume.is at c.in_ok-setup.ensures;
      unread = unread;
    }))))

pub audited_later_run-requires-clause-sources : goal.audited_later_run-requires-clause-sources
audited_later_run-requires-clause-sources g c =
    subst (λ (j : JobView). AreFromSources j c.in_ok-inputs.inputs.rows)
    (sym (job_by c.args.files.now.of _ _ _ _ c.in_ok-setup.ensures))
    c.in_ok-inputs.ensures.sources

pub audited_later_run-requires-clause-turned : goal.audited_later_run-requires-clause-turned
audited_later_run-requires-clause-turned g c =
    let of = c.in_ok-start-in-Resume.ensures.start in
    (save_suits (setup_view c.in_ok-setup.setup) _ of.bytes c.in_ok-start-in-Resume.start
    of.are_so).turned

pub audited_later_run-requires-clause-states : goal.audited_later_run-requires-clause-states
audited_later_run-requires-clause-states g c =
    let of = c.in_ok-start-in-Resume.ensures.start in
    (save_suits (setup_view c.in_ok-setup.setup) _ of.bytes c.in_ok-start-in-Resume.start
    of.are_so).states

pub returns-clause-run : goal.returns-clause-run
returns-clause-run g c =
    both_ok c.audited_later_run.result _ _ _ (λ done audited run. record {
      job = job_view c.in_ok-inputs.inputs.job;
      requests = c.in_ok-inputs.inputs.requests;
      rows = c.in_ok-inputs.inputs.rows;
      setup = c.in_ok-setup.setup;
      begin = c.in_ok-start-in-Resume.start;
      of_files = c.in_ok-inputs.ensures.inputs;
      setup_is = c.in_ok-setup.ensures;
      begins =
          rw c.in-Resume.is
          (rw (c.len.ensures, c.in_ok-inputs.ensures.kept)
          at c.in_ok-start-in-Resume.ensures.start);
      run =
          rw c.in-Resume.is (
            subst (λ (s : Setup). IsSetupFor AreSame c.args.files.now.plan.ordered
                (job_view c.in_ok-inputs.inputs.job) c.in_ok-inputs.inputs.requests s) (sym run.setup_is)
                (rw c.in-Resume.is at c.in_ok-setup.ensures),
            subst (λ (s : Setup). IsRunFromStart c.in_ok-start-in-Resume.start s
                c.in_ok-inputs.inputs.requests c.in_ok-inputs.inputs.rows done) (sym run.setup_is) run,
          );
      audited =
          rw c.in-Resume.is
          (rw c.in_ok-inputs.ensures.kept at (rw c.in_ok-start-in-Resume.ensures.kept at audited));
      verdict = rw c.in-Resume.is c.audited_later_run.ensures.verdict;
      shown = rw c.in-Resume.is tt;
    }) c.audited_later_run.ensures.audited c.audited_later_run.ensures.run

pub returns-clause-cause : goal.returns-clause-cause
returns-clause-cause g c =
    IfErr-weaker c.audited_later_run.result _ _ (λ why unread. inr (inr (record {
      job = job_view c.in_ok-inputs.inputs.job;
      requests = c.in_ok-inputs.inputs.requests;
      rows = c.in_ok-inputs.inputs.rows;
      setup = c.in_ok-setup.setup;
      begin = c.in_ok-start-in-Resume.start;
      of_files = c.in_ok-inputs.ensures.inputs;
      setup_is = c.in_ok-setup.ensures;
      begins =
          rw c.in-Resume.is
          (rw (c.len.ensures, c.in_ok-inputs.ensures.kept)
          at c.in_ok-start-in-Resume.ensures.start);
      unread =
          rw c.in-Resume.is
          (rw c.in_ok-inputs.ensures.kept at (rw c.in_ok-start-in-Resume.ensures.kept at unread));
      verdict = rw c.in-Resume.is c.audited_later_run.ensures.verdict;
      shown = rw c.in-Resume.is tt;
    }))) c.audited_later_run.ensures.cause
