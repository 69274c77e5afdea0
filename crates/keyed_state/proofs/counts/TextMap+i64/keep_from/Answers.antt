use Rattle.std.proofs.Common.{rules, ◌≡◌, ◌∙◌, ap, filter}
use Rattle.std.specs.Prelude.{int_le}
use Rattle.std.specs.Int.{w64}
use mir.Val.{SFits}
use Rattle.std.proofs.lemmas.Int.{to_z-of_z}
use Rattle.keyed_state.specs.TextMap.{map_of}
use Rattle.keyed_state.specs.Counts.{from_least}
use Rattle.keyed_state.proofs.CarryLemmas.{map_of-filter}
use Rattle.keyed_state.proofs.counts.TextMap+i64.keep_from.Goals as goal

pub returns : goal.returns
returns c =
    let es = c.self.inside.entries.entries in
    let fits : SFits w64 c.args.least = search rules in
    let made : c.keep_values.new.counts.entries ≡ filter (λ e. int_le c.args.least e.1) es = simp to_z-of_z at c.keep_values.ensures.kept in
    ap map_of made ∙ map_of-filter (λ x. int_le c.args.least x) es c.keep_values.ensures.ordered
    ∙ ap (λ m. from_least c.args.least m) c.self.view_is
