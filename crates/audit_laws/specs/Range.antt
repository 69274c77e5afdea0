-- Counts in the range of their type.
use Rattle.std.specs.Prelude.{◌<◌, ◌^◌, ℕ, ℤ, All, List}
use Rattle.std.specs.FinMap.{entries}
use Rattle.std.specs.Int.Signed.{mag}
use Rattle.keyed_state.specs.Counts.{Counts}
use Rattle.flow_model.specs.Begin.{Begin}

-- Each of these counts is in the range of its type.
abbrev pub AreInRange : List (List ℕ × ℤ) → Type 0
AreInRange counted = All (λ (c : List ℕ × ℤ). mag c.1 < 2 ^ 63) counted

-- Each count of each worker at the beginning is in the range of its type.
abbrev pub BeginsInRange : Begin → Type 0
BeginsInRange begin = All (λ (counts : Counts). AreInRange (entries counts)) begin.states
