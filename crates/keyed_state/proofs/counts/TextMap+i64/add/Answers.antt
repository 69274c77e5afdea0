use Rattle.std.proofs.Common.{rules, ◌≡◌, ◌∙◌, ap, sym, Some, None}
use Rattle.std.specs.Prelude.{◌+ℤ◌}
use Rattle.std.specs.Int.{w64}
use mir.Val.{SFits, to_z, of_z}
use Rattle.std.proofs.lemmas.Int.{ints, to_z-of_z}
use Rattle.std.specs.FinMap as finite
use Rattle.keyed_state.specs.TextMap.{map_of}
use Rattle.keyed_state.specs.Counts.{clamp}
use Rattle.keyed_state.proofs.EntryLemmas.{map_of-insert_entry, map_of-set_value, get-map_of}
use Rattle.keyed_state.proofs.counts.TextMap+i64.add.Goals as goal

pub returns-in-Some-clause-sum : goal.returns-in-Some-clause-sum
returns-in-Some-clause-sum c =
    let fits : SFits w64 c.total-sum.result = search rules in
    let fits_count : SFits w64 c.in-Some.count.now = search rules in
    let fits_by : SFits w64 c.args.by = search rules in
    let sum : c.total-sum.result ≡ clamp (c.in-Some.count.now +ℤ c.args.by) = simp to_z-of_z at c.total-sum.ensures in
    let held : finite.get c.args.self.now c.args.key.now ≡ Some c.in-Some.count.now =
    ap (λ m. finite.get m c.args.key.now) (sym c.self.view_is) ∙ get-map_of c.self.inside.entries.entries c.args.key.now ∙ sym c.in-Some.ensures.value in
    rw held (simp to_z-of_z sum)

pub returns-in-Some-clause-ok : goal.returns-in-Some-clause-ok
returns-in-Some-clause-ok c =
    let sum = to_z w64 (of_z w64 c.total-sum.result) in
    ap map_of (c.get_mut.follows.holds sum).0
    ∙ map_of-set_value c.self.inside.entries.entries c.args.key.now sum (search rules)
    ∙ ap (λ m. finite.insert m c.args.key.now sum) c.self.view_is

pub returns-clause-sum : goal.returns-clause-sum
returns-clause-sum c =
    let fits_by : SFits w64 c.args.by = search rules in
    let held : finite.get c.args.self.now c.args.key.now ≡ None =
    ap (λ m. finite.get m c.args.key.now) (sym c.self.view_is) ∙ get-map_of c.self.inside.entries.entries c.args.key.now ∙ sym c.in_default.ensures.value in
    rw held (simp to_z-of_z (search (rules, ints)))

pub returns-clause-ok : goal.returns-clause-ok
returns-clause-ok c =
    let sum = to_z w64 (of_z w64 c.args.by) in
    ap map_of c.in_ok-insert.ensures.entries
    ∙ map_of-insert_entry c.get_mut.follows.lender-at-none.entries c.in_ok-owned.owned sum
    ∙ ap (λ m. finite.insert (map_of m.entries) c.in_ok-owned.owned.items sum) c.get_mut.follows.holds-at-none
    ∙ ap (λ m. finite.insert m c.in_ok-owned.owned.items sum) c.self.view_is
    ∙ ap (λ k. finite.insert c.args.self.now k sum) c.in_ok-owned.ensures.items
