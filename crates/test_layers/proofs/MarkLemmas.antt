-- A marker that covers no node may be put on any lane.
use Rattle.std.proofs.Common.{ℕ, List, get_or, sym, ◌∙◌}
use Rattle.std.proofs.lemmas.Nat.Bits.{bit_at-zero}
use Rattle.tuple_trace.specs.declared.tuple.Item.{Item}
use Rattle.tuple_trace.specs.declared.tuple.Item.TheVariants.{Carry, Mark, Last}
use Rattle.lane_core.specs.declared.form.Origin.{Origin}
use Rattle.lane_core.specs.Steady.{Agrees, MayFollow}

-- it agrees with whatever stands before it
Agrees-no_cover : (earlier : Item) (request : ℕ) → Agrees earlier (Mark request 0)
Agrees-no_cover (Carry tuple) request = λ k d within covered. absurd (cc (sym (bit_at-zero (get_or tuple.trace k d).node) ∙ covered))
Agrees-no_cover (Mark other cover) request = tt
Agrees-no_cover Last request = tt

-- so it may follow every list
pub MayFollow-no_cover : (origin : Origin) (before : List Item) (request : ℕ) → MayFollow origin before (Mark request 0)
MayFollow-no_cover origin before request = (tt, λ k d within. Agrees-no_cover (get_or before k d) request)
