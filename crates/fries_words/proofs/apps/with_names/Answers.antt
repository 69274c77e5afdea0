use Rattle.std.proofs.Common.{refl}
use Rattle.fries_words.specs.Apps.{name_rule}
use Rattle.fries_words.proofs.AppLemmas.{becomes_next, becomes_whole}
use Rattle.fries_words.proofs.apps.with_names.Goals as goal

pub loop-id-init : goal.loop-id-init
loop-id-init c = record { whole = refl; local = c.requires }

pub loop-id-preserved : goal.loop-id-preserved
loop-id-preserved c =
    becomes_next (λ text. text.now) (name_rule c.args.needed) c.args.names.now _ c.loop-id.id-index _ c.loop-id.command
    c.name.result c.in_ok-command.command c.loop-id-test.true c.loop-id.invariant
    c.name.ensures.rule c.name.ensures.local c.in_ok-command.ensures

pub returns : goal.returns
returns c =
    becomes_whole (λ text. text.now) (name_rule c.args.needed) c.args.names.now _ c.loop-id.id-index c.loop-id.command
    c.loop-id-test.false c.loop-id.invariant
