use Rattle.std.proofs.Common.{◌∙◌, ◌==◌, sym}
use Rattle.flow_model.specs.Whole.{meets_row}
use Rattle.std.proofs.Common.{◌∷◌, []}
use Rattle.serial_order.proofs.NewLemmas.{met-none, met-one}
use Rattle.serial_order.proofs.NumberedLemmas.{numbered-none, numbered-same}
use Rattle.serial_order.proofs.places.number_met.Goals as goal

pub returns-in-Some : goal.returns-in-Some
returns-in-Some c =
    c.number_row.ensures
    ∙ numbered-same (λ other. c.in-Some.row == other) (λ other. meets_row other (c.args.entry.now ∷ [])) c.args.request 1 c.args.numbers.now
    (λ other. sym (met-one c.args.entry.now c.in-Some.row other (sym c.met_row.ensures ∙ c.in-Some.is)))

pub returns-in_default : goal.returns-in_default
returns-in_default c =
    sym (numbered-none (λ other. meets_row other (c.args.entry.now ∷ [])) c.args.request 1 c.args.numbers.now
    (λ other le. met-none c.args.entry.now other (sym c.met_row.ensures ∙ c.in_default.is)))
