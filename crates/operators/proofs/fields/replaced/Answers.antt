use Rattle.std.proofs.Common.{◌<◌, ◌∙◌, ◌+◌, [], ◌∷◌, length, take, drop, refl, add-one, append_assoc, arith}
use Rattle.std.proofs.lemmas.List.{set_split, take_rest}
use Rattle.operators.proofs.fields.replaced.Goals as goal

pub returns : goal.returns
returns c =
    let fields = c.args.fields.now in
    let place = c.args.place in
    let inside : place < length fields = omega arith in
    c.own.ensures ∙ c.from_vec.ensures ∙ c.in_ok-append-2.ensures
    ∙ rw (c.in_ok-push.ensures.items, c.in_ok-append.ensures, c.in_ok-made.ensures.items, take_rest fields (place + 1))
    (append_assoc (take place fields) (c.args.value ∷ []) (drop (place + 1) fields) ∙ rw (set_split fields place c.args.value inside, add-one) refl)
