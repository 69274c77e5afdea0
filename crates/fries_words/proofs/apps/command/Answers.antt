use Rattle.std.proofs.lemmas.Result.{IfOk-weaker}
use Rattle.fries_words.proofs.AppLemmas.{rules_behind}
use Rattle.fries_words.proofs.apps.command.Goals as goal

pub returns : goal.returns
returns c =
    let named = rules_behind _ _ _ _ c.new.ensures.app c.in_ok-command.ensures in
    let extra = rules_behind _ _ _ _ named.0 c.in_ok-command-2.ensures in
    let optional = rules_behind _ _ _ _ extra.0 c.in_ok-command-3.ensures in
    IfOk-weaker c.with_flags.result _ _ (λ made is. rules_behind _ made _ _ optional.0 is)
    c.with_flags.ensures
