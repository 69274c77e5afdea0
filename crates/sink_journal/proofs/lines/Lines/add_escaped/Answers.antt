use Rattle.std.proofs.Common.{◌∷◌, ◌++◌, ◌∙◌, [], ap, List, ℕ}
use Rattle.std.proofs.lemmas.Bool.{eq-eqb, ne_eqb}
use Rattle.sink_journal.proofs.FieldLemmas.{escaped-same, escaped-other, on-ok}
use Rattle.sink_journal.proofs.lines.Lines.add_escaped.Goals as goal

pub returns-then-byte-eq34 : goal.returns-then-byte-eq34
returns-then-byte-eq34 c =
    rw (escaped-same c.args.byte (eq-eqb c.args.byte 34 c.if-byte-eq34.true), c.if-byte-eq34.true) (on-ok c.extend_from_slice.result (λ text. text ∙ ap (λ (t : List ℕ). t ++ 34 ∷ 34 ∷ []) c.self.view_is) c.extend_from_slice.ensures.ok)

pub returns : goal.returns
returns c =
    rw (escaped-other c.args.byte (ne_eqb c.args.byte 34 c.if-byte-eq34.false)) (on-ok c.push.result (λ text. text ∙ ap (λ (t : List ℕ). t ++ c.args.byte ∷ []) c.self.view_is) c.push.ensures.ok)
