use Rattle.std.proofs.Common.{rules, ◌≡◌, ◌∙◌, ap, sym}
use Rattle.std.specs.Prelude.{int_le}
use Rattle.std.proofs.lemmas.Map.Entries.{filter_from_retain_pairs}
use Rattle.keyed_state.proofs.counts.keep_values.Goals as goal

-- each call keeps what the closure borrows, and leaves the count
pub returns-clause-kept : goal.returns-clause-kept
returns-clause-kept c =
    filter_from_retain_pairs _ (λ f. f.0.now ≡ c.args.least) (λ e. int_le c.args.least e.1)
    (λ g k v b w g' i t.
    let (same, (tested, left)) = t.called.met in
    (tested ∙ ap (λ x. int_le x t.value.now) i ∙ ap (λ x. int_le c.args.least x) t.shows.1, sym t.leaves ∙ left ∙ t.shows.1, ap (λ x. x.now) same ∙ i))
    _ c.args.counts.now.entries c.retain.new.self.entries (search rules) c.retain.ensures.filtered
