use Rattle.std.proofs.Common.{◌≡◌, ◌∙◌, ◌+◌, ◌++◌, ◌∷◌, [], List, ap, option_to_list, subst, sym, take}
use Rattle.std.proofs.lemmas.List.{take_more}
use Rattle.audit_laws.specs.declared.audit.AuditEntry.{AuditEntry}
use Rattle.audit_laws.specs.Restoring.{restored}
use Rattle.audit_restore.specs.Standing.{HasTakenAll, left_on}
use Rattle.audit_restore.proofs.TakingLemmas.{one_more_made, one_more_taken}
use Rattle.audit_restore.proofs.taking.take_all.Goals as goal

pub loop-entry-preserved : goal.loop-entry-preserved
loop-entry-preserved c =
    let journal = c.args.journal.now in
    let i = c.loop-entry.entry-index in
    let this : AuditEntry = c.entry-item.result in
    let more : take (i + 1) journal ≡ take i journal ++ this ∷ [] =
    take_more journal i this c.loop-entry-test.true ∙ ap (λ (x : AuditEntry). take i journal ++ x ∷ []) (sym c.entry-item.is) in
    let inv = c.loop-entry.invariant in
    record {
      made =
          one_more_made (take i journal) this c.args.standing.now c.loop-entry.standing c.loop-entry.made c.add.new.made (option_to_list c.taken-step.result) inv.left inv.made
          c.taken-step.ensures.made c.in_ok-add.ensures
          ∙ ap (restored (left_on c.args.standing.now)) (sym more);
      left =
          subst (λ (l : List AuditEntry). HasTakenAll l c.args.standing.now c.taken-step.new.standing) (sym more)
          (one_more_taken (take i journal) this c.args.standing.now c.loop-entry.standing c.taken-step.new.standing inv.left c.taken-step.ensures.left);
    }
