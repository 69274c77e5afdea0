use Rattle.std.proofs.Common.{◌≡◌, ◌+◌, ◌++◌, ◌∷◌, ◌∙◌, [], ℕ, List, ap, append_assoc, drop, sym}
use Rattle.std.specs.List.{join_with_byte}
use Rattle.std.proofs.lemmas.List.{drop_more}
use Rattle.fries_lines.proofs.ListLemmas.{join_two}
use Rattle.fries_lines.proofs.plan_lines.listed.Goals as goal

pub loop-text-preserved : goal.loop-text-preserved
loop-text-preserved c =
    let i = c.loop-text.text-index in
    let rest : List (List ℕ) = drop (i + 1) c.in-Some.later.now in
    let here : drop i c.in-Some.later.now ≡ c.text-item.result ∷ rest = drop_more c.in-Some.later.now i c.text-item.result c.loop-text-test.true ∙ ap (λ (x : List ℕ). x ∷ rest) (sym c.text-item.is) in
    let joined : c.push.new.text ≡ c.loop-text.list ++ 44 ∷ c.text-item.result = rw (c.in_ok-push.ensures, c.as_slice-in-loop-text.ensures) (append_assoc c.loop-text.list (44 ∷ []) c.text-item.result) in
    rw joined (sym (join_two 44 c.loop-text.list c.text-item.result rest) ∙ ap (λ (xs : List (List ℕ)). join_with_byte 44 (c.loop-text.list ∷ xs)) (sym here) ∙ c.loop-text.invariant)
