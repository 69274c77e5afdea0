use Rattle.std.proofs.Common.{◌∙◌, ◌+◌, ◌∷◌, ap, sym, take}
use Rattle.std.proofs.lemmas.List.{take_rest}
use Rattle.operators.specs.Pieces.{pieces}
use Rattle.operators.proofs.PieceLemmas.{pieces-at, pieces-whole}
use Rattle.operators.proofs.pieces.cut.Goals as goal

pub returns-in-Some : goal.returns-in-Some
returns-in-Some c =
    let text = c.args.text.now in
    let at = c.in-Some.at in
    pieces-at c.args.by text at (sym c.in-Some.ensures)
    ∙ ap (λ rest. take at text ∷ pieces c.args.by rest) (sym (take_rest text (at + 1)))

pub returns-in-None : goal.returns-in-None
returns-in-None c = pieces-whole c.args.by c.args.text.now (sym c.in-None.ensures)
