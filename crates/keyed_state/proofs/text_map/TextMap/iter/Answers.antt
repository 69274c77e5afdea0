use Rattle.std.proofs.Common.{◌∙◌, sym, ap, map}
use Rattle.std.specs.FinMap as finite
use Rattle.keyed_state.specs.TextMap.{shown}
use Rattle.keyed_state.proofs.EntryLemmas.{entries-map_of}
use Rattle.keyed_state.proofs.text_map.TextMap.iter.Goals as goal

pub returns : goal.returns
returns g c =
    c.new.ensures ∙ ap (map shown) c.iter.ensures.rest ∙ sym (entries-map_of c.self.inside.entries.entries c.iter.ensures.ordered)
    ∙ ap (λ m. finite.entries m) c.self.view_is
