use Rattle.std.proofs.Common.{◌++◌, ◌∙◌, ap, sym, List, ℕ, append_assoc}
use Rattle.std.specs.Prelude.{decimal}
use Rattle.sink_journal.specs.Audit.{dotted}
use Rattle.sink_journal.proofs.FieldLemmas.{dotted-cons, later_text}
use Rattle.sink_journal.proofs.lines.Lines.spell_dotted.Goals as goal

pub loop-number-init : goal.loop-number-init
loop-number-init c =
    let start = c.args.self.now in
    let first = c.in-Some.first.now in
    let later = c.in-Some.later.now in
    let spelled = c.in_ok-spell.ensures ∙ ap (λ (n : ℕ). start ++ decimal n) c.into.ensures in
    ap (λ (t : List ℕ). t ++ later_text later) spelled ∙ append_assoc start (decimal first) (later_text later)
    ∙ ap (λ (t : List ℕ). start ++ t) (sym (dotted-cons first later)) ∙ ap (λ (ns : List ℕ). start ++ dotted ns) (sym c.in-Some.ensures.cases.0)
