use Rattle.std.proofs.Common.{ap, append-nil, ◌∙◌, ◌∷◌, ◌++◌, List, ℕ, []}
use Rattle.std.specs.List.{concat}
use Rattle.std.proofs.lemmas.List.Folds.{concat-append}
use Rattle.text_threads.proofs.text.Text.push.Goals as goal

pub returns-clause-ok : goal.returns-clause-ok
returns-clause-ok c =
    let parts = c.self.inside.parts.items in
    ap (λ (parts : List (List ℕ)). concat parts) c.in_ok-push.ensures.items
    ∙ concat-append parts (c.args.part ∷ [])
    ∙ ap (λ (t : List ℕ). concat parts ++ t) (append-nil c.args.part)
    ∙ ap (λ (t : List ℕ). t ++ c.args.part) c.self.view_is
