use Rattle.std.proofs.Common.{◌≡◌, ◌∙◌, ◌+◌, ◌<◌, ◌++◌, List, [], ◌∷◌, Some, ap, arith, length}
use Rattle.std.proofs.Common.{slice_get, subst, sym, take}
use Rattle.std.proofs.lemmas.List.{length-take-le}
use Rattle.std.proofs.lemmas.Option.{slice_get-get_or}
use Rattle.tuple_trace.specs.Rows.{IsRow}
use Rattle.tuple_trace.specs.declared.row.Row.{Row}
use Rattle.flow_model.proofs.TopologyLemmas.{take-next}
use Rattle.stream_replay.proofs.progress.fed_up_to.Goals as goal

pub loop-place-init : goal.loop-place-init
loop-place-init c =
    c.requires.fed
    ∙ (ap (λ k. take k c.args.rows.now) (sym c.len-place.ensures)
    ∙ ap (λ (l : List Row). take c.len-place.result l) (sym c.as_slice-all.ensures.value))

pub push-requires : goal.push-requires
push-requires c =
    let all : List Row = c.as_slice-all.result.now in
    let place = c.loop-place.place in
    let item : Row = c.index-all-place.result in
    let within : length all ≡ length c.args.rows.now =
    ap (λ (l : List Row). length l) c.as_slice-all.ensures.value in
    let lt : place < length all = omega (arith, within, c.requires.within) in
    let there : slice_get all place ≡ Some item =
    slice_get-get_or all place item lt ∙ ap Some (sym c.index-all-place.is) in
    let many : length c.loop-place.fed ≡ place =
    ap (λ (l : List Row). length l) c.loop-place.invariant
    ∙ length-take-le place all (omega (arith, lt)) in
    subst (λ k. IsRow (k + 1) c.in_ok-copy_of.field-0) (sym many)
    (subst (IsRow (place + 1)) (sym c.in_ok-copy_of.ensures)
    (c.as_slice-all.ensures.rows place item there))

pub loop-place-preserved : goal.loop-place-preserved
loop-place-preserved c =
    let all : List Row = c.as_slice-all.result.now in
    let place = c.loop-place.place in
    let item : Row = c.index-all-place.result in
    let within : length all ≡ length c.args.rows.now =
    ap (λ (l : List Row). length l) c.as_slice-all.ensures.value in
    let lt : place < length all = omega (arith, within, c.requires.within) in
    let there : slice_get all place ≡ Some item =
    slice_get-get_or all place item lt ∙ ap Some (sym c.index-all-place.is) in
    let next = take-next all place item there in
    c.in_ok-push.ensures.ok
    ∙ (ap (λ (l : List Row). l ++ c.in_ok-copy_of.field-0 ∷ []) c.loop-place.invariant
    ∙ (ap (λ (r : Row). take place all ++ r ∷ []) c.in_ok-copy_of.ensures ∙ sym next))
