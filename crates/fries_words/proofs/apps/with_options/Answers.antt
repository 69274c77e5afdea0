use Rattle.std.proofs.Common.{refl}
use Rattle.fries_words.specs.Apps.{option_rule_of}
use Rattle.fries_words.specs.Views.{option_view}
use Rattle.fries_words.proofs.AppLemmas.{becomes_next, becomes_whole}
use Rattle.fries_words.proofs.apps.with_options.Goals as goal

pub loop-value-init : goal.loop-value-init
loop-value-init c = record { whole = refl; local = c.requires }

pub loop-value-preserved : goal.loop-value-preserved
loop-value-preserved c =
    becomes_next option_view option_rule_of c.args.options.now _ c.loop-value.value-index _ c.loop-value.command
    c.option.result c.in_ok-command.command c.loop-value-test.true c.loop-value.invariant
    c.option.ensures.rule c.option.ensures.local c.in_ok-command.ensures

pub returns : goal.returns
returns c =
    becomes_whole option_view option_rule_of c.args.options.now _ c.loop-value.value-index c.loop-value.command
    c.loop-value-test.false c.loop-value.invariant
