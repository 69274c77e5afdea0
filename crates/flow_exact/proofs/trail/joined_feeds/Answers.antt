use Rattle.std.proofs.Common.{◌≡◌, ◌∙◌, ◌++◌, List, ap, not, rules}
use Rattle.std.proofs.lemmas.Fn.{filter_same}
use Rattle.sink_journal.specs.declared.journal.Feed.{Feed}
use Rattle.savepoint.specs.Parts.{is_stop, unstopped}
use Rattle.flow_exact.proofs.trail.joined_feeds.Goals as goal

pub returns : goal.returns
returns c =
    let kept : c.retain.new.self.items ≡ unstopped c.into_vec-feeds.result.items =
    filter_same _ (λ (x : Feed). not (is_stop x)) _ (λ x b f' k. search rules) _ _
    c.retain.ensures.filtered in
    c.from_vec.ensures
    ∙ (c.in_ok-append.ensures.items
    ∙ (ap (λ (l : List Feed). l ++ c.into_vec-more.result.items) kept
    ∙ (ap (λ (l : List Feed). unstopped l ++ c.into_vec-more.result.items) c.into_vec-feeds.ensures
    ∙ ap (λ (l : List Feed). unstopped c.args.first ++ l) c.into_vec-more.ensures)))
