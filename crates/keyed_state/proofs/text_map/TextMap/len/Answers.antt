use Rattle.std.proofs.Common.{◌∙◌, sym, ap}
use Rattle.std.specs.FinMap as finite
use Rattle.keyed_state.proofs.EntryLemmas.{len-map_of}
use Rattle.keyed_state.proofs.text_map.TextMap.len.Goals as goal

pub returns : goal.returns
returns g c =
    c.len.ensures.len ∙ sym (len-map_of c.self.inside.entries.entries c.len.ensures.ordered)
    ∙ ap (λ m. finite.len m) c.self.view_is
