-- A worker's decision: the first rule that applies.
use Rattle.std.specs.Prelude.{ℕ, ◌+◌, List, Bool, not, ◌&&◌, ◌||◌, Option, Some, None, is_none, option_map, unwrap_or, take, drop, position, if◌then◌else◌}
use Rattle.std.specs.List.{enumerate_from, list_all, list_any}
use Rattle.std.specs.Option.{option_or}
use Rattle.flow_dag.specs.Masks.{has}
use Rattle.marker_align.specs.Hands.{is_issued, is_last, is_marker, is_tuple}
use Rattle.marker_align.specs.declared.held.Hand.{Hand}
use Rattle.marker_align.specs.declared.decision.Act.{Act}
use Rattle.marker_align.specs.declared.decision.Act.TheVariants.{Turn, Process, Close, Nothing}
use Rattle.marker_align.specs.declared.decision.Due.{Due}

-- the hand of each of the due's lanes holds its marker
abbrev pub is_aligned : Due → List Hand → Bool
is_aligned due hands =
    list_all (λ (place, hand). not (has due.lanes place) || is_marker due.request due.cover hand)
    (enumerate_from 0 hands)

-- at a head, the due was posted or a hand holds a tuple fed under it; elsewhere, the markers are
-- aligned
abbrev pub may_turn : List Hand → Due → Bool → Bool
may_turn hands due posted =
    if due.head then posted || list_any (is_issued due.request) hands
    else is_aligned due hands

abbrev pub turn : List Hand → Option Due → Bool → Option Act
turn hands None posted = None
turn hands (Some due) posted = if may_turn hands due posted then Some (Turn due.request) else None

-- the first place with a tuple from `start` on, going round
abbrev pub next_tuple : ℕ → List Hand → Option ℕ
next_tuple start hands =
    option_or (option_map (λ k. start + k) (position is_tuple (drop start hands)))
    (position is_tuple (take start hands))

-- nothing is due, and all hands hold ends
abbrev pub close : List Hand → Option Due → Option Act
close hands due = if is_none due && list_all is_last hands then Some Close else None

-- the decision
abbrev pub decided : List Hand → Option Due → Bool → ℕ → Act
decided hands due posted start =
    unwrap_or (option_or (turn hands due posted)
    (option_or (option_map Process (next_tuple start hands)) (close hands due)))
    Nothing
