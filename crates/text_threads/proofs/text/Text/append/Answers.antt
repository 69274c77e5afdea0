use Rattle.std.proofs.Common.{ap, ◌∙◌, ◌++◌, List, ℕ}
use Rattle.std.specs.List.{concat}
use Rattle.std.proofs.lemmas.List.Folds.{concat-append}
use Rattle.text_threads.proofs.text.Text.append.Goals as goal

pub returns-clause-ok : goal.returns-clause-ok
returns-clause-ok c =
    ap (λ (parts : List (List ℕ)). concat parts) c.in_ok-append.ensures.items
    ∙ concat-append c.self.inside.parts.items c.more.inside.parts.items
    ∙ ap (λ (t : List ℕ). t ++ concat c.more.inside.parts.items) c.self.view_is
    ∙ ap (λ (t : List ℕ). c.args.self.now ++ t) c.more.view_is
