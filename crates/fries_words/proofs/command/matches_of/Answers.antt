use Rattle.std.proofs.Common.{◌∙◌, ap}
use Rattle.std.proofs.lemmas.Result.{IfErr-weaker, IfOk-weaker}
use Rattle.clap.specs.Words.{App, is_simple, subcommand_of, takes}
use Rattle.fries_words.specs.Views.{texts}
use Rattle.fries_words.proofs.TopicRules.{program_is_simple}
use Rattle.fries_words.proofs.command.matches_of.Goals as goal

pub returns-clause-matches : goal.returns-clause-matches
returns-clause-matches c =
    let is = c.in_ok-program.ensures.0 in
    IfOk-weaker c.try_get_matches_from.result _ _
    (λ matches has. (has (ap is_simple is ∙ program_is_simple)).1 ∙ ap (λ (a : App). subcommand_of a (texts c.args.words.now)) is)
    c.try_get_matches_from.ensures.matches

pub returns-clause-memory : goal.returns-clause-memory
returns-clause-memory c =
    IfErr-weaker c.try_get_matches_from.result _ _
    (λ error passes. passes (ap (λ (a : App). takes a (texts c.args.words.now)) c.in_ok-program.ensures.0 ∙ c.requires))
    c.try_get_matches_from.ensures.passes
