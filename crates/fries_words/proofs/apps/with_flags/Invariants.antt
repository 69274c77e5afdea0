use Rattle.std.proofs.Common.{drop, map}
use Rattle.clap.specs.Words.{app_of}
use Rattle.fries_words.specs.Apps.{flag_rule_of, with_rules}
use Rattle.fries_words.specs.Views.{flag_view}
use Rattle.fries_words.proofs.AppLemmas.{Becomes}
use Rattle.fries_words.proofs.apps.with_flags.Given as goal

abbrev pub invariant-loop-flag : goal.invariant-loop-flag
invariant-loop-flag l =
    Becomes l.command (map flag_rule_of (map flag_view (drop l.flag-index l.flags)))
    (with_rules (app_of l.fn.command) (map flag_rule_of (map flag_view l.flags)))
