use Rattle.std.proofs.Common.{rules, ◌≡◌, ◌∙◌, ap, sym}
use Rattle.keyed_state.specs.Counts.{scaled}
use Rattle.keyed_state.proofs.CarryLemmas.{map_from_retain_pairs}
use Rattle.keyed_state.proofs.counts.scale_values.Goals as goal

-- each call keeps what the closure borrows, and scales the count
pub returns-clause-scaled : goal.returns-clause-scaled
returns-clause-scaled c =
    map_from_retain_pairs _ (λ f. (f.0.now ≡ c.args.by) × (f.1.now ≡ c.args.over)) (scaled c.args.by c.args.over)
    (λ g k v b w g' i t.
    let ((same_by, same_over), (kept, left)) = t.called.met in (
      kept,
      sym t.leaves ∙ left ∙ ap (λ x. scaled x g.1.now t.value.now) i.0 ∙ ap (λ x. scaled c.args.by x t.value.now) i.1 ∙ ap (scaled c.args.by c.args.over) t.shows.1,
      (ap (λ x. x.now) same_by ∙ i.0, ap (λ x. x.now) same_over ∙ i.1),
    ))
    _ c.args.counts.now.entries c.retain.new.self.entries (search rules) c.retain.ensures.filtered
