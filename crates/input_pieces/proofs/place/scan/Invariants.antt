use Rattle.std.proofs.Common.{◌≡◌, ◌≤◌, ◌-◌, length, take}
use Rattle.csv.specs.Reading.{default_config}
use Rattle.input_pieces.specs.Cut.{IsLastCut, state_after}
use Rattle.input_pieces.specs.Places.{state_of}
use Rattle.input_pieces.proofs.place.scan.Given as goal

-- what the bytes so far say
abbrev pub invariant-loop-i : goal.invariant-loop-i
invariant-loop-i l = (l.i ≤ length l.fn.bytes)
    × (state_of l.scan.place ≡ state_after default_config (state_of l.fn.from) (take l.i l.fn.bytes))
    × IsLastCut default_config (state_of l.fn.from) (take l.i l.fn.bytes) l.scan.cut

abbrev pub decreases-loop-i : goal.decreases-loop-i
decreases-loop-i l = length l.fn.bytes - l.i
