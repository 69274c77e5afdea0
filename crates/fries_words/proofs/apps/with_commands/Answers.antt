use Rattle.std.proofs.Common.{refl}
use Rattle.fries_words.proofs.AppLemmas.{grows_next, grows_whole}
use Rattle.fries_words.proofs.apps.with_commands.Goals as goal

pub loop-pair-init : goal.loop-pair-init
loop-pair-init c = record { whole = refl; local = c.requires }

pub loop-pair-preserved : goal.loop-pair-preserved
loop-pair-preserved c =
    let (added, is, adds) = c.in_ok-program.ensures in
    grows_next c.args.commands.now _ c.loop-pair.pair-index _ c.loop-pair.program
    added c.in_ok-program.program _ c.loop-pair-test.true c.loop-pair.invariant
    is refl adds

pub returns : goal.returns
returns c =
    grows_whole c.args.commands.now _ c.loop-pair.pair-index c.loop-pair.program
    c.loop-pair-test.false c.loop-pair.invariant
