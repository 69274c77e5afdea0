use Rattle.input_pieces.proofs.TapLemmas.{given_and_left}
use Rattle.input_pieces.proofs.tank.Tank.give.Goals as goal

pub returns-clause-given : goal.returns-clause-given
returns-clause-given c =
    given_and_left c.args.self.now.bytes c.left-left.result.now c.copy_prefix-count.new.to c.args.room.now c.args.self.now.taken c.min-most.result c.copy_prefix-count.result
    c.left-left.ensures c.copy_prefix-count.ensures.count c.copy_prefix-count.ensures.copied
