use Rattle.std.proofs.Common.{rules, ◌≡◌, ◌∙◌, ap}
use Rattle.std.specs.Int.{w64}
use mir.Val.{SFits, to_z, of_z}
use Rattle.std.proofs.lemmas.Int.{to_z-of_z}
use Rattle.std.specs.FinMap as finite
use Rattle.keyed_state.specs.TextMap.{map_of}
use Rattle.keyed_state.proofs.EntryLemmas.{map_of-insert_entry}
use Rattle.keyed_state.proofs.counts.TextMap+i64.set.Goals as goal

pub returns-clause-ok : goal.returns-clause-ok
returns-clause-ok c =
    let fits : SFits w64 c.args.count = search rules in
    let count = to_z w64 (of_z w64 c.args.count) in
    let made : map_of c.insert.new.self.entries ≡ finite.insert c.args.self.now c.args.key.now count =
    ap map_of c.in_ok-insert.ensures.entries
    ∙ map_of-insert_entry c.self.inside.entries.entries c.in_ok-owned.owned count
    ∙ ap (λ m. finite.insert m c.in_ok-owned.owned.items count) c.self.view_is
    ∙ ap (λ k. finite.insert c.args.self.now k count) c.in_ok-owned.ensures.items in
    simp to_z-of_z at made
