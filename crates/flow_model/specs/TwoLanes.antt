-- A worked law: a worker with two lanes in, 0 and 1, both of which bring it the marker of request
-- 1.
use Rattle.std.specs.Prelude.{ℕ, pos, false, List, [], ◌∷◌}
use Rattle.sink_journal.specs.declared.journal.Entry.{Entry}
use Rattle.sink_journal.specs.declared.journal.Entry.TheVariants as entry
use Rattle.flow_model.specs.FourPayments.{payment}
use Rattle.flow_model.specs.Law.{Duties}

abbrev pub joining : Duties
joining = record {
  lanes = 0 ∷ 1 ∷ [];
  dues = 1 ∷ [];
  is_head = λ request. false;
  marked_lanes = λ request. 0 ∷ 1 ∷ [];
}

abbrev pub both_ended : List Entry
both_ended = entry.Ended 0 ∷ entry.Ended 1 ∷ []

abbrev pub meets : ℕ → ℕ → Entry
meets lane row = entry.Met lane (payment row (pos 1) 0 [])

-- both markers, and directly behind them the turn
abbrev pub joined : List Entry
joined =
    meets 0 1 ∷ entry.Marked 1 1 ∷ entry.Marked 0 1 ∷ entry.Turned 1 ∷ meets 1 2 ∷ both_ended

-- a marker is missing
abbrev pub unmarked : List Entry
unmarked = entry.Marked 0 1 ∷ entry.Turned 1 ∷ both_ended

-- a tuple stands between two markers
abbrev pub parted : List Entry
parted = entry.Marked 0 1 ∷ meets 1 1 ∷ entry.Marked 1 1 ∷ entry.Turned 1 ∷ both_ended

-- a request is never turned
abbrev pub unturned : List Entry
unturned = both_ended
