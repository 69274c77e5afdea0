use Rattle.std.proofs.Common.{◌≡◌, ◌∙◌, ◌++◌, List, ap, not, rules}
use Rattle.std.proofs.lemmas.Fn.{filter_same}
use Rattle.sink_journal.specs.declared.journal.Entry.{Entry}
use Rattle.savepoint.specs.Parts.{endless, is_end}
use Rattle.flow_exact.proofs.trail.joined_one.Goals as goal

pub returns : goal.returns
returns c =
    let kept : c.retain.new.self.items ≡ endless c.into_vec-journal.result.items =
    filter_same _ (λ (x : Entry). not (is_end x)) _ (λ x b f' k. search rules) _ _
    c.retain.ensures.filtered in
    c.from_vec.ensures
    ∙ (c.in_ok-append.ensures.items
    ∙ (ap (λ (l : List Entry). l ++ c.into_vec-more.result.items) kept
    ∙ (ap (λ (l : List Entry). endless l ++ c.into_vec-more.result.items)
    c.into_vec-journal.ensures
    ∙ ap (λ (l : List Entry). endless c.args.first ++ l) c.into_vec-more.ensures)))
