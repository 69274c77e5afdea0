use Rattle.std.proofs.Common.{drop, map}
use Rattle.clap.specs.Words.{app_of}
use Rattle.fries_words.specs.Apps.{name_rule, with_rules}
use Rattle.fries_words.specs.Views.{texts}
use Rattle.fries_words.proofs.AppLemmas.{Becomes}
use Rattle.fries_words.proofs.apps.with_names.Given as goal

abbrev pub invariant-loop-id : goal.invariant-loop-id
invariant-loop-id l =
    Becomes l.command (map (name_rule l.needed) (texts (drop l.id-index l.names)))
    (with_rules (app_of l.fn.command) (map (name_rule l.needed) (texts l.names)))
