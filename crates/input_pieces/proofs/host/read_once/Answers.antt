use Rattle.input_pieces.proofs.TapLemmas.{read_after_kept}
use Rattle.input_pieces.proofs.host.read_once.Goals as goal

pub returns-in-Ok-clause-bytes : goal.returns-in-Ok-clause-bytes
returns-in-Ok-clause-bytes g c = read_after_kept _ _ _ c.in-Ok.count _ c.loop.invariant c.in-Ok.ensures.bytes
