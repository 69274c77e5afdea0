use Rattle.std.proofs.Common.{◌≡◌, ◌∙◌, ℕ, arith, false, inl, inr, of_z, subst, sym, to_z, w64}
use Rattle.std.proofs.lemmas.Bool.{cases_lt}
use Rattle.std.proofs.Math.Facts.{to_z-of_z}
use Rattle.jobs.specs.Job.{job_view}
use Rattle.flow_model.specs.Workers.{nobody, nth_worker, workers_in}
use Rattle.savepoint_file.specs.Steps.{takes_key}
use Rattle.savepoint_file.proofs.NamedLemmas.{position-at, position-none}
use Rattle.savepoint_file.proofs.placed.worker_with.Goals as goal

pub loop-worker-preserved : goal.loop-worker-preserved
loop-worker-preserved c k lt =
    let job = job_view c.args.setup.now.job in
    let last = c.loop-worker.worker in
    elim (cases_lt k last) [
      | inl l ↦ c.loop-worker.invariant k l
      | inr le ↦
          let same : k ≡ last = omega (arith, lt, le) in
          subst (λ (n : ℕ). takes_key job c.args.name.now (to_z w64 (of_z w64 c.args.place)) c.args.key.now (nth_worker job n) ≡ false) (sym same)
          (sym c.takes_key.ensures ∙ c.if-takes_key.false)
    ]

pub returns-then-takes_key : goal.returns-then-takes_key
returns-then-takes_key c =
    let job = job_view c.args.setup.now.job in
    let less = c.loop-worker-test.true in
    let all = c.workers-worker-end.ensures.value in
    sym (position-at (takes_key job c.args.name.now c.args.place c.args.key.now) (workers_in job) c.loop-worker.worker nobody (omega (arith, less, all)) (λ k l. simp (to_z-of_z c.ranges.place) at (c.loop-worker.invariant k l)) (sym (simp (to_z-of_z c.ranges.place) at c.takes_key.ensures) ∙ c.if-takes_key.true))

pub returns : goal.returns
returns c =
    let job = job_view c.args.setup.now.job in
    let past = c.loop-worker-test.false in
    let all = c.workers-worker-end.ensures.value in
    sym (position-none (takes_key job c.args.name.now c.args.place c.args.key.now) (workers_in job) c.loop-worker.worker nobody (omega (arith, past, all)) (λ k l. simp (to_z-of_z c.ranges.place) at (c.loop-worker.invariant k l)))
