use Rattle.std.proofs.Common.{◌∙◌, ap, rules}
use Rattle.std.specs.FinMap as finite
use Rattle.keyed_state.specs.TextMap.{map_of}
use Rattle.keyed_state.proofs.EntryLemmas.{map_of-insert_entry, map_of-set_value}
use Rattle.keyed_state.proofs.text_map.TextMap.insert.Goals as goal

pub returns-in-Some-clause-ok : goal.returns-in-Some-clause-ok
returns-in-Some-clause-ok g c =
    let old = c.self.inside.entries.entries in
    ap map_of (c.get_mut.follows.holds c.args.value).0
    ∙ map_of-set_value old c.args.key.now c.args.value (search rules)
    ∙ ap (λ m. finite.insert m c.args.key.now c.args.value) c.self.view_is

pub returns-clause-ok : goal.returns-clause-ok
returns-clause-ok g c =
    ap map_of c.in_ok-insert.ensures.entries
    ∙ map_of-insert_entry c.get_mut.follows.lender-at-none.entries c.in_ok-owned.owned c.args.value
    ∙ ap (λ m. finite.insert (map_of m.entries) c.in_ok-owned.owned.items c.args.value) c.get_mut.follows.holds-at-none
    ∙ ap (λ m. finite.insert m c.in_ok-owned.owned.items c.args.value) c.self.view_is
    ∙ ap (λ k. finite.insert c.args.self.now k c.args.value) c.in_ok-owned.ensures.items
