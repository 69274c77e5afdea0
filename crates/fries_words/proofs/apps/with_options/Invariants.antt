use Rattle.std.proofs.Common.{drop, map}
use Rattle.clap.specs.Words.{app_of}
use Rattle.fries_words.specs.Apps.{option_rule_of, with_rules}
use Rattle.fries_words.specs.Views.{option_view}
use Rattle.fries_words.proofs.AppLemmas.{Becomes}
use Rattle.fries_words.proofs.apps.with_options.Given as goal

abbrev pub invariant-loop-value : goal.invariant-loop-value
invariant-loop-value l =
    Becomes l.command (map option_rule_of (map option_view (drop l.value-index l.options)))
    (with_rules (app_of l.fn.command) (map option_rule_of (map option_view l.options)))
