use Rattle.std.proofs.Common.{◌≡◌, ◌∙◌, false, List, sym, subst}
use Rattle.std.specs.List.{list_any}
use Rattle.flow_worker.specs.Endpoints.{LaneOutIs, is_waiting}
use Rattle.flow_worker.proofs.OutMasks.{has_room}
use Rattle.flow_worker.proofs.lanes_out.LanesOut.reserve.Goals as goal

pub returns-then-not-is_waiting-clause-ok : goal.returns-then-not-is_waiting-clause-ok
returns-then-not-is_waiting-clause-ok g c =
    let idle : list_any is_waiting c.self.inside.lanes.items ≡ false = subst (λ (xs : List LaneOutIs). list_any is_waiting xs ≡ false) (sym c.self.view_is) (sym c.is_waiting.ensures ∙ c.if-not-is_waiting.true) in
    rw (← c.self.view_is) (has_room c.args.more c.self.inside.room c.self.inside.waiting c.self.inside.lanes.items c.if-more-self.true idle c.self.invariant)
