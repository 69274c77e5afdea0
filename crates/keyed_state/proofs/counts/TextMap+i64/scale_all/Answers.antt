use Rattle.std.proofs.Common.{rules, ◌≡◌, ◌∙◌, ap, map}
use Rattle.std.specs.Int.{w64}
use mir.Val.{SFits}
use Rattle.std.proofs.lemmas.Int.{to_z-of_z}
use Rattle.keyed_state.specs.TextMap.{map_of}
use Rattle.keyed_state.specs.Counts.{scaled, scaled_all}
use Rattle.keyed_state.proofs.CarryLemmas.{map_of-map}
use Rattle.keyed_state.proofs.counts.TextMap+i64.scale_all.Goals as goal

pub returns : goal.returns
returns c =
    let es = c.self.inside.entries.entries in
    let fits_by : SFits w64 c.args.by = search rules in
    let fits_over : SFits w64 c.args.over = search rules in
    let made : c.scale_values.new.counts.entries ≡ map (λ e. (e.0, scaled c.args.by c.args.over e.1)) es = simp to_z-of_z at c.scale_values.ensures.scaled in
    ap map_of made ∙ map_of-map (scaled c.args.by c.args.over) es c.scale_values.ensures.ordered
    ∙ ap (λ m. scaled_all c.args.by c.args.over m) c.self.view_is
