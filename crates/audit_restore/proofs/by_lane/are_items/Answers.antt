use Rattle.std.proofs.Common.{◌≡◌, ◌∙◌, ap, arith, length, sym}
use Rattle.std.specs.Borrow.{Bor}
use Rattle.audit_laws.specs.declared.audit.AuditEntry.{AuditEntry}
use Rattle.audit_laws.specs.Faults.{seen}
use Rattle.audit_restore.proofs.ByLaneLemmas.{agree_at, agree_length}
use Rattle.audit_restore.proofs.by_lane.are_items.Goals as goal

pub returns-then-not-is_item : goal.returns-then-not-is_item
returns-then-not-is_item c =
    let items = c.args.items.now.items in
    let entries = c.args.entries.now in
    let i = c.loop-place.place in (
      λ f. absurd (cc),
      λ e.
          let long : length items ≡ length entries = agree_length (seen c.args.lane) (λ (e : Bor AuditEntry). e.now) items entries e in
          let at = agree_at (seen c.args.lane) (λ (e : Bor AuditEntry). e.now) items entries i c.index.result.now c.index-entries-place.result e (omega (arith, long, c.loop-place-test.true)) in
          c.if-not-is_item.ensures.1 (ap (seen c.args.lane) c.index.ensures ∙ (at ∙ ap (λ (e : Bor AuditEntry). e.now) (sym c.index-entries-place.is))),
    )
