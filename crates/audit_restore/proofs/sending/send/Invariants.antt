use Rattle.std.proofs.Common.{◌≡◌, List, drop, map, take}
use Rattle.flow_model.specs.SetupWorker.{setup_here}
use Rattle.tuple_trace.specs.declared.tuple.Item.{Item}
use Rattle.flow_model.specs.declared.topology.Lane.{Lane}
use Rattle.flow_model.specs.Lanes.{lanes_out}
use Rattle.audit_restore.proofs.SendingLemmas.{AreSent}
use Rattle.audit_restore.proofs.sending.send.Given as goal
use Rattle.std.proofs.Common.{length}

abbrev pub invariant-loop-number : goal.invariant-loop-number
invariant-loop-number l = record {
  long : length l.standing ≡ length l.fn.standing;
  sent :
      (on : Lane → List Item) → l.fn.sent ≡ map on (lanes_out (setup_here l.who).job l.who.number)
      → AreSent (setup_here l.who).job on (take l.number-index l.number-items) l.fn.standing l.standing
      × (l.lists.items ≡ drop l.number-index (map on (lanes_out (setup_here l.who).job l.who.number)));
}
