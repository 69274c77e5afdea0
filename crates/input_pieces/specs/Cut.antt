-- Where a text of CSV can be cut between two records.
use Rattle.std.specs.Prelude.{◌≡◌, ◌≤◌, ◌<◌, ◌||◌, ℕ, Bool, true, false, List, [], ◌∷◌, Option, None, Some, take, drop, length}
use Rattle.csv.specs.Machine.{step}
use Rattle.csv.specs.declared.parser.Config.{Config}
use Rattle.csv.specs.declared.parser.State.{State}
use Rattle.csv.specs.declared.parser.State.TheVariants as st

-- the state after these bytes
abbrev pub state_after : Config → State → List ℕ → State
state_after cfg s [] = s
state_after cfg s (c ∷ rest) = state_after cfg (step cfg s c).0 rest

-- a text ends where the next record may begin
abbrev pub IsCut : Config → List ℕ → Type 0
IsCut cfg text = state_after cfg st.StartRecord text ≡ st.StartRecord

-- a record may begin in this state
abbrev pub is_start : State → Bool
is_start st.StartRecord = true
is_start st.StartField = false
is_start st.InField = false
is_start st.InQuoted = false
is_start st.AfterQuote = false
is_start st.InEscape = false
is_start st.InComment = false
is_start st.AfterCr = false

-- from this state on, a record may begin behind one of these bytes
abbrev pub has_cut : Config → State → List ℕ → Bool
has_cut cfg s [] = false
has_cut cfg s (c ∷ rest) = is_start (step cfg s c).0 || has_cut cfg (step cfg s c).0 rest

-- no beginning of a text but the empty one is cut
abbrev pub IsUncut : Config → List ℕ → Type 0
IsUncut cfg text = has_cut cfg st.StartRecord text ≡ false

-- the number of bytes up to the last place, from this state on, where a record may begin
abbrev pub IsLastCut : Config → State → List ℕ → Option ℕ → Type 0
IsLastCut cfg s bytes None = has_cut cfg s bytes ≡ false
IsLastCut cfg s bytes (Some n) = (0 < n) × (n ≤ length bytes)
    × (state_after cfg s (take n bytes) ≡ st.StartRecord) × IsUncut cfg (drop n bytes)
