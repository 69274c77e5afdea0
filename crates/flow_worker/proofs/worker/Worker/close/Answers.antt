use Rattle.std.proofs.Common.{refl, sym, ◌∙◌, List, [], ◌∷◌}
use Rattle.tuple_trace.specs.declared.tuple.Item.{Item}
use Rattle.tuple_trace.specs.declared.tuple.Item.TheVariants.{Last}
use Rattle.flow_worker.specs.Endpoints.{Appended, LaneOutIs, Reserved}
use Rattle.flow_worker.specs.Pairs.{EachPair}
use Rattle.flow_worker.proofs.Pairs.{each_same}
use Rattle.flow_worker.proofs.Gaining.{gains, room}
use Rattle.flow_worker.proofs.Results.{ok_fact}
use Rattle.flow_worker.proofs.worker.Worker.close.Goals as goal

pub returns-then-is_err-clause-err : goal.returns-then-is_err-clause-err
returns-then-is_err-clause-err g c =
    rw (← c.self.view_is) (record { rest = rw c.reserve.ensures.items refl; outs = each_same _ _ (λ x. refl) })

pub push_ends-requires-clause-room : goal.push_ends-requires-clause-room
push_ends-requires-clause-room g c κs up =
    let was = c.self.inside.outs in
    let now = c.reserve-2.new.self in
    let p : EachPair (Reserved 1) was now = ok_fact c.reserve-2.result (sym c.is_err-2.ensures.value ∙ c.if-is_err-2.false) c.reserve-2.ensures.ok in
    (room 1 was now p)

pub returns-clause-ok : goal.returns-clause-ok
returns-clause-ok g c =
    let was = c.self.inside.outs in
    let now = c.reserve-2.new.self in
    let last = c.push_ends.new.self in
    let f : LaneOutIs → List Item = λ o. Last ∷ [] in
    let p : EachPair (Reserved 1) was now = ok_fact c.reserve-2.result (sym c.is_err-2.ensures.value ∙ c.if-is_err-2.false) c.reserve-2.ensures.ok in
    let a : EachPair (Appended f) now last = c.push_ends.ensures in
    let all : EachPair _ was last = gains f 1 was now last (λ a m. refl) p a in
    rw (← c.self.view_is) (record {
      journal = rw (c.note_ends.ensures.journal, c.reserve.ensures.items) refl;
      ins = c.note_ends.ensures.ins;
      outs = all;
      closed = refl;
      rest = refl;
    })
