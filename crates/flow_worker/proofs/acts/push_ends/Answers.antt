use Rattle.std.proofs.Common.{[], ◌∷◌, arith, add-one, get_or, sym, subst}
use Rattle.tuple_trace.specs.declared.tuple.Item.TheVariants.{Last}
use Rattle.flow_worker.specs.Endpoints.{Appended, HasRoomFor, LaneOutIs}
use Rattle.flow_worker.proofs.Pairs.{first_more, first_all, first_next, each_get}
use Rattle.flow_worker.proofs.acts.push_ends.Goals as goal

pub push-requires-clause-room : goal.push-requires-clause-room
push-requires-clause-room g c =
    let n = c.loop-out.out-index in
    let d = c.out-item.result in
    let P : LaneOutIs → Type 0 = λ o. HasRoomFor 1 o in
    let e = first_next (Appended (λ o. Last ∷ [])) n c.args.outs.now c.loop-out.out-items d c.loop-out.invariant in
    let h : P (get_or c.loop-out.out-items n d) = subst P (sym e) (each_get P c.args.outs.now n d c.requires.room (omega arith)) in
    omega arith

pub loop-out-preserved : goal.loop-out-preserved
loop-out-preserved g c =
    let n = c.loop-out.out-index in
    let items = c.loop-out.out-items in
    let d = c.out-item.result in
    rw add-one (first_more (Appended (λ o. Last ∷ [])) n c.args.outs.now items d c.push.new.self c.loop-out.invariant (omega arith)
    c.push.ensures)

pub returns : goal.returns
returns g c = first_all (Appended (λ o. Last ∷ [])) c.loop-out.out-index c.args.outs.now c.loop-out.out-items c.loop-out.invariant (omega arith)
