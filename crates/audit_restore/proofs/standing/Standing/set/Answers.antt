use Rattle.std.proofs.Common.{◌∙◌}
use Rattle.audit_restore.proofs.StandingLemmas.{set_seen}
use Rattle.audit_restore.proofs.standing.Standing.set.Goals as goal

pub returns : goal.returns
returns c =
    set_seen (λ queue. queue.items) c.self.inside.lanes.items c.args.self.now c.args.lane c.from_vec.result c.args.items c.self.view_is (c.from_vec.ensures.items ∙ c.into_vec.ensures)
