use Rattle.std.proofs.Common.{◌≡◌, ◌∙◌, ◌==◌, ◌++◌, ◌∷◌, [], ℕ, List, Bool, true, false, ap, append_assoc, cond, sym}
use Rattle.std.proofs.lemmas.Bool.{eq-eqb, ne_eqb}
use Rattle.std.proofs.lemmas.List.{append-nil}
use Rattle.jobs.specs.Job.{job_view}
use Rattle.flow_model.specs.Workers.{nth_worker}
use Rattle.audit_restore.specs.Restored.{numbers_at}
use Rattle.audit_restore.proofs.OrderLemmas.{numbers_more}
use Rattle.audit_restore.proofs.order.push_workers.Goals.{then-node_of-node+in_ok-push, else-node_of-node}
use Rattle.audit_restore.proofs.order.push_workers.Goals as goal

pub loop-worker-preserved : goal.loop-worker-preserved
loop-worker-preserved c =
    let job = job_view c.args.setup.now.job in
    let n = c.loop-worker.worker in
    let node = c.args.node in
    let old = c.args.workers.now in
    let more = numbers_more job node n in
    elim c.if-node_of-node.branch [
      | then-node_of-node+in_ok-push b ↦
          let test : ((nth_worker job n).node == node) ≡ true = eq-eqb (nth_worker job n).node node (sym c.node_of.ensures.at ∙ b.if-node_of-node.true) in
          b.workers-is ∙ (b.in_ok-push.ensures.ok ∙ (ap (λ (l : List ℕ). l ++ n ∷ []) c.loop-worker.invariant ∙ (append_assoc old (numbers_at job node n) (n ∷ [])
          ∙ ap (λ (l : List ℕ). old ++ l) (sym (more ∙ ap (λ (t : Bool). numbers_at job node n ++ cond t (n ∷ []) []) test)))))
      | else-node_of-node b ↦
          let test : ((nth_worker job n).node == node) ≡ false = ne_eqb (nth_worker job n).node node (λ e. b.if-node_of-node.false (c.node_of.ensures.at ∙ e)) in
          b.workers-is ∙ (c.loop-worker.invariant
          ∙ ap (λ (l : List ℕ). old ++ l) (sym (more ∙ (ap (λ (t : Bool). numbers_at job node n ++ cond t (n ∷ []) []) test ∙ append-nil (numbers_at job node n)))))
    ]
