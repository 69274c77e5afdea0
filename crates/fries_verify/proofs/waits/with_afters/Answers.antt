use Rattle.std.proofs.Common.{◌≡◌, ◌∙◌, ◌+◌, ◌<◌, ℕ, List, Some, suc, ap, arith, get_or, length, set, slice_get, sym, take}
use Rattle.std.proofs.lemmas.Option.{slice_get-get_or}
use Rattle.versions.specs.declared.request.Request.{Request}
use Rattle.flow_model.specs.Waiting.{with_afters}
use Rattle.flow_model.proofs.WaitingLemmas.{length_waiting, with_next}
use Rattle.fries_verify.proofs.waits.with_afters.Goals as goal

pub loop-place-preserved : goal.loop-place-preserved
loop-place-preserved c =
    let k = c.loop-place.place in
    let waits : List ℕ = c.args.waits.now in
    let q : Request = c.index_mut.result.now in
    let items : List Request = c.loop-place.requests.items in
    let a : ℕ = get_or waits k 0 in
    let is : items ≡ with_afters (take k waits) c.args.requests = c.loop-place.invariant in
    let long : length items ≡ length c.args.requests = ap (λ (l : List Request). length l) is ∙ length_waiting (take k waits) c.args.requests in
    let lt : k < length items = omega (arith, long, c.loop-place-test.true, c.requires) in
    let here : slice_get items k ≡ Some q = slice_get-get_or items k q lt ∙ ap Some (sym c.index_mut.ensures.value) in
    let there : slice_get (with_afters (take k waits) c.args.requests) k ≡ Some q = ap (λ (l : List Request). slice_get l k) (sym is) ∙ here in
    let next : suc k ≡ k + 1 = omega arith in
    ap (λ (l : List Request). set l k (record q { after = a })) is
    ∙ (with_next waits k a c.args.requests q (slice_get-get_or waits k 0 c.loop-place-test.true) there
    ∙ ap (λ n. with_afters (take n waits) c.args.requests) next)
