use Rattle.std.proofs.Common.{◌∙◌, sym, not, ◌||◌}
use Rattle.flow_dag.specs.Masks.{has}
use Rattle.marker_align.specs.Hands.{is_issued, is_marker}
use Rattle.marker_align.proofs.MapLemmas.{list_all-enumerate_from-map, list_any-map}
use Rattle.marker_align.proofs.decision.may_turn.Goals as goal

pub returns-else-posted : goal.returns-else-posted
returns-else-posted g c = rw (c.if-due.true, c.if-posted.false) (c.some_issued.ensures ∙ sym (list_any-map g.H.Holder.hand (is_issued c.args.due.now.request) c.args.hands.now))

pub returns-else-due : goal.returns-else-due
returns-else-due g c =
    let due = c.args.due.now in
    rw c.if-due.false (c.is_aligned.ensures ∙ sym (list_all-enumerate_from-map g.H.Holder.hand (λ (place, hand). not (has due.lanes place) || is_marker due.request due.cover hand) 0 c.args.hands.now))
