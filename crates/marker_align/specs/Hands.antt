-- What a hand holds.
use Rattle.std.specs.Prelude.{ℕ, Bool, true, false, ◌&&◌, ◌==◌, nat_le}
use Rattle.tuple_trace.specs.declared.tuple.Item.TheVariants.{Carry, Mark, Last}
use Rattle.marker_align.specs.declared.held.Hand.{Hand}
use Rattle.marker_align.specs.declared.held.Hand.TheVariants.{Holds}

-- a tuple whose row was fed under this request or a later one
abbrev pub is_issued : ℕ → Hand → Bool
is_issued request (Holds (Carry tuple)) = nat_le request tuple.issued
is_issued request _ = false

-- the marker of this request with this cover
abbrev pub is_marker : ℕ → ℕ → Hand → Bool
is_marker request cover (Holds (Mark held held_cover)) = (held == request) && (held_cover == cover)
is_marker request cover _ = false

-- a tuple
abbrev pub is_tuple : Hand → Bool
is_tuple (Holds (Carry tuple)) = true
is_tuple _ = false

-- the end of a lane
abbrev pub is_last : Hand → Bool
is_last (Holds Last) = true
is_last _ = false
