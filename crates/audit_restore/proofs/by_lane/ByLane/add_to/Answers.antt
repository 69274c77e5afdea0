use Rattle.std.proofs.Common.{◌∙◌, ◌∷◌, [], ap, arith}
use Rattle.std.specs.Borrow.{Bor}
use Rattle.std.proofs.lemmas.List.{map-append}
use Rattle.audit_laws.specs.declared.audit.AuditEntry.{AuditEntry}
use Rattle.audit_restore.specs.ByLane.{entries_of}
use Rattle.audit_restore.proofs.StandingLemmas.{put_seen}
use Rattle.audit_restore.proofs.by_lane.ByLane.add_to.Goals as goal

pub returns-in_ok-push : goal.returns-in_ok-push
returns-in_ok-push c =
    put_seen (λ list. entries_of list.items) c.self.inside.lists.items c.args.self.now c.args.lane c.index_mut.result.now c.push.new.self c.args.entry.now c.self.view_is
    (omega (arith, c.len.ensures, c.if-lane-len.true)) c.index_mut.ensures.value
    (ap entries_of c.in_ok-push.ensures.items ∙ map-append (λ (e : Bor AuditEntry). e.now) c.index_mut.result.now.items (c.args.entry ∷ []))
