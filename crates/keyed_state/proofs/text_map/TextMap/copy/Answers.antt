use Rattle.std.proofs.Common.{◌∙◌, ap, sym}
use Rattle.std.specs.FinMap.{from_entries}
use Rattle.keyed_state.proofs.EntryLemmas.{shown-clones}
use Rattle.keyed_state.proofs.text_map.TextMap.copy.Goals as goal

pub returns : goal.returns
returns g c = λ same.
    let h = c.in_ok-clone.ensures.cases in
    sym h.3
    ∙ ap (λ es. from_entries es) (shown-clones _ _ (λ x y e. e) same h.0.entries.entries h.1.entries.entries h.4.1)
    ∙ h.2
