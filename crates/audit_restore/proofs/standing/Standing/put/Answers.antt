use Rattle.audit_restore.proofs.StandingLemmas.{put_seen, seen_length}
use Rattle.audit_restore.proofs.standing.Standing.put.Goals as goal

pub returns : goal.returns
returns c =
    put_seen (λ queue. queue.items) c.self.inside.lanes.items c.args.self.now c.args.lane c.index_mut.result.now c.push_back.new.self c.args.item c.self.view_is
    (seen_length (λ queue. queue.items) c.self.inside.lanes.items c.args.self.now c.args.lane c.self.view_is c.requires) c.index_mut.ensures.value c.in_ok-push_back.ensures.items
