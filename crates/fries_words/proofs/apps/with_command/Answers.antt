use Rattle.std.proofs.Common.{subst}
use Rattle.std.proofs.lemmas.Result.{IfOk-weaker}
use Rattle.fries_words.specs.Apps.{IsApp, command_app}
use Rattle.fries_words.specs.Form.{Form}
use Rattle.fries_words.proofs.apps.with_command.Goals as goal

pub returns : goal.returns
returns c =
    let is =
    subst (λ (form : Form). IsApp c.in_ok-added.added (command_app c.args.word.now form))
    c.form_of.ensures c.in_ok-added.ensures in
    IfOk-weaker c.subcommand.result _ _ (λ made adds. (c.in_ok-added.added, is, adds))
    c.subcommand.ensures
