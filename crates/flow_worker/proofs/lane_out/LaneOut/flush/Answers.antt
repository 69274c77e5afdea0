use Rattle.std.proofs.Common.{◌∙◌, List, ◌++◌, sym, subst}
use Rattle.tuple_trace.specs.declared.tuple.Item.{Item}
use Rattle.lane_core.specs.Steady.{IsSteady}
use Rattle.lane_core.specs.declared.form.Origin.{Origin}
use Rattle.lane_core.proofs.SteadyLemmas.{MayFollow-in_steady}
use Rattle.flow_worker.specs.Endpoints.{planned}
use Rattle.flow_worker.proofs.lane_out.LaneOut.flush.Goals as goal

pub put-requires : goal.put-requires
put-requires g c =
    let o = (g.L.Tx.Tx.state c.loop-item.self-inside.end).origin in
    let sent = (g.L.Tx.Tx.state c.loop-item.self-inside.end).items in
    let P : Origin → Type 0 = λ q. IsSteady q (planned c.args.self.now) in
    let Q : List Item → Type 0 = λ l. IsSteady o l in
    let R : List Item → Type 0 = λ l. IsSteady o (sent ++ l) in
    let first : IsSteady o (planned c.args.self.now) = subst P (sym c.loop-item.invariant.origin) c.requires.steady in
    let second : IsSteady o (sent ++ c.loop-item.self-inside.waiting.items) = subst Q (sym c.loop-item.invariant.planned) first in
    MayFollow-in_steady o sent c.in-Some.item c.pop_front.new.self.items (subst R c.in-Some.ensures.items second)

pub returns-in-Err-clause-memory : goal.returns-in-Err-clause-memory
returns-in-Err-clause-memory g c = c.push_front_reserved.ensures.capacity ∙ (c.pop_front.ensures.capacity ∙ c.loop-item.invariant.memory)

pub returns-clause-memory : goal.returns-clause-memory
returns-clause-memory g c = c.pop_front.ensures.capacity ∙ c.loop-item.invariant.memory
