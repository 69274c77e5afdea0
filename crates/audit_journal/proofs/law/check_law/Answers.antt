use Rattle.std.proofs.Common.{◌≡◌, ◌∙◌, List, inl, inr, sym, ap, subst, arith, Some, slice_get}
use Rattle.std.proofs.lemmas.Bool.{cases_lt}
use Rattle.std.proofs.lemmas.Option.{same_Some, slice_get-get_or, slice_get_within}
use Rattle.flow_model.specs.Setup.{setup_view}
use Rattle.flow_model.specs.SetupView.{Worker}
use Rattle.flow_model.specs.Workers.{nth_worker, workers_in}
use Rattle.flow_model.proofs.WorkerPlaces.{get-nth_worker}
use Rattle.audit_laws.specs.Checked.{IsFinishedDraft}
use Rattle.audit_laws.specs.declared.audit.AuditEntry.{AuditEntry}
use Rattle.audit_journal.proofs.law.check_law.Goals as goal

pub returns-then-not-branch-clause-fault : goal.returns-then-not-branch-clause-fault
returns-then-not-branch-clause-fault c =
    let setup = setup_view c.args.setup.now in
    let w = c.loop-worker.worker in
    let many = c.workers-worker-end.ensures.value in
    let there = slice_get-get_or c.args.audit.now w c.index-audit-worker.result (omega (arith, c.loop-worker-test.true, many, c.requires)) in
    record {
      who = nth_worker setup.job w;
      works = get-nth_worker setup.job w (omega (arith, c.loop-worker-test.true, many));
      journal = c.as_slice-journal.result.now;
      there = there ∙ ap Some (sym (c.as_slice-journal.ensures ∙ c.index-audit-worker.is));
      unfinished = λ law. let yes = c.in_ok-is_finished.ensures.1 law in let f = c.if-not-branch.true in absurd (cc);
      least = c.loop-worker.invariant;
    }

pub loop-worker-preserved : goal.loop-worker-preserved
loop-worker-preserved c v p j lt works there =
    let setup = setup_view c.args.setup.now in
    let w = c.loop-worker.worker in
    let many = c.workers-worker-end.ensures.value in
    elim (cases_lt v w) [
      | inl below ↦ c.loop-worker.invariant v p j below works there
      | inr above ↦
          let same : v ≡ w = omega (arith, lt, above) in
          let here = slice_get-get_or c.args.audit.now w c.index-audit-worker.result (omega (arith, c.loop-worker-test.true, many, c.requires)) in
          let who : nth_worker setup.job w ≡ p =
          same_Some (nth_worker setup.job w) p (sym (get-nth_worker setup.job w (omega (arith, c.loop-worker-test.true, many))) ∙ (ap (slice_get (workers_in setup.job)) (sym same) ∙ works)) in
          let journal : c.as_slice-journal.result.now ≡ j =
          same_Some c.as_slice-journal.result.now j (ap Some (c.as_slice-journal.ensures ∙ c.index-audit-worker.is) ∙ (sym here ∙ (ap (slice_get c.args.audit.now) (sym same) ∙ there))) in
          let law = c.in_ok-is_finished.ensures.0 (let f = c.if-not-branch.false in cc) in
          subst (λ (q : Worker). IsFinishedDraft c.args.start.now setup c.args.rows.now q j) who (subst (λ (l : List AuditEntry). IsFinishedDraft c.args.start.now setup c.args.rows.now (nth_worker setup.job w) l) journal law)
    ]

pub returns-clause-ok : goal.returns-clause-ok
returns-clause-ok c w who journal works there =
    let many = c.workers-worker-end.ensures.value in
    let lt = slice_get_within (workers_in (setup_view c.args.setup.now).job) w who works in
    c.loop-worker.invariant w who journal (omega (arith, lt, many, c.loop-worker-test.false)) works there
