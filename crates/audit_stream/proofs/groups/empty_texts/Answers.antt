use Rattle.std.proofs.Common.{◌++◌, ◌∷◌, ◌∙◌, [], ap₂, arith, sym, List, ℕ}
use Rattle.std.proofs.lemmas.List.FromFn.{map-range_with_len_more}
use Rattle.audit_stream.specs.Sorting.{group_text}
use Rattle.audit_stream.proofs.groups.empty_texts.Goals as goal

pub loop-group-preserved : goal.loop-group-preserved
loop-group-preserved c =
    let loop = c.loop-group in
    ◌∙◌ {A = List (List ℕ)} c.in_ok-push.ensures.items
    (ap₂ (λ (l : List (List ℕ)) (t : List ℕ). l ++ t ∷ []) loop.invariant c.new.ensures
    ∙ sym (map-range_with_len_more (group_text c.args.workers.now []) 0 loop._group loop._group (omega arith)))
