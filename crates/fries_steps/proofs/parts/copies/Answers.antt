use Rattle.std.proofs.Common.{◌≡◌, ◌++◌, ◌∷◌, ◌∙◌, [], List, ap, length, refl, sym, take, arith}
use Rattle.std.proofs.lemmas.List.{length-take-le, take_more}
use Rattle.std.proofs.lemmas.Option.{slice_get_read}
use Rattle.tuple_trace.specs.declared.row.Row.{Row}
use Rattle.fries_steps.proofs.parts.copies.Goals as goal

pub push-requires : goal.push-requires
push-requires c =
    let i = c.loop-row.row-index in
    let rows : List Row = c.args.rows.now in
    let row = c.row-item.result in
    let at = slice_get_read rows (length rows) i row refl c.loop-row-test.true c.row-item.is in
    let many : length c.loop-row.copies ≡ i =
    ap (λ (l : List Row). length l) c.loop-row.invariant ∙ length-take-le i rows (omega (arith, c.loop-row-test.true)) in
    rw (many, c.in_ok-copy_of.ensures) (c.requires i row at)

pub loop-row-preserved : goal.loop-row-preserved
loop-row-preserved c =
    let i = c.loop-row.row-index in
    let rows : List Row = c.args.rows.now in
    c.in_ok-push.ensures.ok
    ∙ (ap (λ (l : List Row). l ++ c.in_ok-copy_of.field-0 ∷ []) c.loop-row.invariant
    ∙ (ap (λ (r : Row). take i rows ++ r ∷ []) (c.in_ok-copy_of.ensures ∙ c.row-item.is)
    ∙ sym (take_more rows i c.row-item.result c.loop-row-test.true)))
