use Rattle.std.proofs.Common.{refl}
use Rattle.fries_words.specs.Apps.{flag_rule_of}
use Rattle.fries_words.specs.Views.{flag_view}
use Rattle.fries_words.proofs.AppLemmas.{becomes_next, becomes_whole}
use Rattle.fries_words.proofs.apps.with_flags.Goals as goal

pub loop-flag-init : goal.loop-flag-init
loop-flag-init c = record { whole = refl; local = c.requires }

pub loop-flag-preserved : goal.loop-flag-preserved
loop-flag-preserved c =
    becomes_next flag_view flag_rule_of c.args.flags.now _ c.loop-flag.flag-index _ c.loop-flag.command
    c.switch.result c.in_ok-command.command c.loop-flag-test.true c.loop-flag.invariant
    c.switch.ensures.rule c.switch.ensures.local c.in_ok-command.ensures

pub returns : goal.returns
returns c =
    becomes_whole flag_view flag_rule_of c.args.flags.now _ c.loop-flag.flag-index c.loop-flag.command
    c.loop-flag-test.false c.loop-flag.invariant
