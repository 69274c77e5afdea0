use Rattle.std.proofs.Common.{◌≡◌, ◌<◌, List, [], ◌∷◌, ◌++◌, cond, Bool, arith, add-one, get_or, sym, subst, ap, ◌∙◌}
use Rattle.flow_dag.specs.Masks.{has}
use Rattle.tuple_trace.specs.declared.tuple.Item.{Item}
use Rattle.tuple_trace.specs.declared.tuple.Item.TheVariants.{Mark}
use Rattle.flow_worker.specs.Endpoints.{Appended, HasRoomFor, LaneOutIs}
use Rattle.flow_worker.proofs.Pairs.{each_get, first_all, first_more, first_next}
use Rattle.flow_worker.proofs.acts.push_markers.Goals as goal

pub is_in-is_covered-requires : goal.is_in-is_covered-requires
is_in-is_covered-requires g c =
    let n = c.loop-out.out-index in
    let d = c.out-item.result in
    let f : LaneOutIs → List Item = λ out. cond (has c.args.edges out.edge) (Mark c.args.due.now.request c.args.due.now.cover ∷ []) [] in
    let P : LaneOutIs → Type 0 = λ o. o.edge < 128 in
    let e = first_next (Appended f) n c.args.outs.now c.loop-out.out-items d c.loop-out.invariant in
    let h : P (get_or c.loop-out.out-items n d) = subst P (sym e) (each_get P c.args.outs.now n d c.requires.edges (omega arith)) in
    let same = c.edge.ensures in
    omega arith

pub push_marker-requires-clause-room : goal.push_marker-requires-clause-room
push_marker-requires-clause-room g c =
    let n = c.loop-out.out-index in
    let d = c.out-item.result in
    let f : LaneOutIs → List Item = λ out. cond (has c.args.edges out.edge) (Mark c.args.due.now.request c.args.due.now.cover ∷ []) [] in
    let e = first_next (Appended f) n c.args.outs.now c.loop-out.out-items d c.loop-out.invariant in
    let h : HasRoomFor 1 (get_or c.loop-out.out-items n d) = subst (HasRoomFor 1) (sym e) (each_get (HasRoomFor 1) c.args.outs.now n d c.requires.room (omega arith)) in
    omega arith

pub loop-out-preserved : goal.loop-out-preserved
loop-out-preserved g c =
    let n = c.loop-out.out-index in
    let items = c.loop-out.out-items in
    let d = c.out-item.result in
    let f : LaneOutIs → List Item = λ out. cond (has c.args.edges out.edge) (Mark c.args.due.now.request c.args.due.now.cover ∷ []) [] in
    rw add-one (first_more (Appended f) n c.args.outs.now items d c.push_marker.new.out c.loop-out.invariant (omega arith)
    (let P : Bool → Type 0 = λ b. c.push_marker.new.out ≡ record (get_or items n d) { waiting = (get_or items n d).waiting ++ cond b (Mark c.args.due.now.request c.args.due.now.cover ∷ []) [] } in
    subst P (c.is_in-is_covered.ensures ∙ ap (has c.args.edges) c.edge.ensures) c.push_marker.ensures))

pub returns : goal.returns
returns g c =
    let f : LaneOutIs → List Item = λ out. cond (has c.args.edges out.edge) (Mark c.args.due.now.request c.args.due.now.cover ∷ []) [] in
    first_all (Appended f) c.loop-out.out-index c.args.outs.now c.loop-out.out-items c.loop-out.invariant (omega arith)
