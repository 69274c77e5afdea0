use Rattle.std.proofs.Common.{rules, ◌≡◌, ℤ, Some, refl, slice_get, subst, sym}
use Rattle.std.specs.FinMap.{entries}
use Rattle.std.specs.Int.{w64}
use mir.Val.{SFits, of_z, to_z}
use Rattle.std.proofs.lemmas.Int.{to_z-of_z}
use Rattle.audit_restore.proofs.CountLemmas.{next_first, other_next}
use Rattle.audit_restore.proofs.counts.are_counts.Goals as goal

pub returns-then-not-is_count : goal.returns-then-not-is_count
returns-then-not-is_count c =
    let fits : SFits w64 c.in-Some.count.now = search rules in
    let same : to_z w64 (of_z w64 c.in-Some.count.now) ≡ c.in-Some.count.now = to_z-of_z w64 c.in-Some.count.now fits in (
      λ f. absurd (cc),
      λ e. absurd (other_next c.args.told.now (entries c.args.state.now) c.loop-key.key-iterator c.next.new.self c.loop-key.place (c.in-Some.key.now, c.in-Some.count.now) c.loop-key.invariant c.in-Some.ensures.steps
          (λ at. let f = c.if-not-is_count.ensures.1 (subst (λ (z : ℤ). slice_get c.args.told.now c.loop-key.place ≡ Some (c.in-Some.key.now, z)) (sym same) at) in absurd (cc)) e),
    )

pub loop-key-preserved : goal.loop-key-preserved
loop-key-preserved c =
    let fits : SFits w64 c.in-Some.count.now = search rules in
    let same : to_z w64 (of_z w64 c.in-Some.count.now) ≡ c.in-Some.count.now = to_z-of_z w64 c.in-Some.count.now fits in
    next_first c.args.told.now (entries c.args.state.now) c.loop-key.key-iterator c.next.new.self c.loop-key.place (c.in-Some.key.now, c.in-Some.count.now) c.loop-key.invariant c.in-Some.ensures.steps
    (subst (λ (z : ℤ). slice_get c.args.told.now c.loop-key.place ≡ Some (c.in-Some.key.now, z)) same (c.if-not-is_count.ensures.0 refl))
