use Rattle.std.proofs.Common.{rules}
use Rattle.std.proofs.lemmas.Nat.Bits.{bit_at_above}
use Rattle.marker_align.proofs.decision.is_in.Goals as goal

pub returns-else-place-lt-LANE_SET_BITS : goal.returns-else-place-lt-LANE_SET_BITS
returns-else-place-lt-LANE_SET_BITS c = rw (bit_at_above c.args.lanes 128 c.args.place (search rules) c.if-place-lt-LANE_SET_BITS.false) (search rules)
