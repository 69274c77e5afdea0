-- Counts of what happened, which never fall.
use Rattle.std.specs.Prelude.{ℕ, ◌≤◌, ◌+◌, ◌-◌, ◌^◌, min}

-- a count has risen, or stands at the greatest number that it can be; it has not fallen
pub record Rose (before now : ℕ) : Type 0 where
  pub kept : before ≤ now
  pub more : min (before + 1) (2 ^ 64 - 1) ≤ now
