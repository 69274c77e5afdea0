-- A stream that is to be run.
use Rattle.std.proofs.Common.{◌≡◌, ◌<◌, ℕ, Option, None, Some, arith}
use Rattle.std.specs.Prelude.{IfSome, max}

-- no savepoint is due before a row was run
pub none-due : (every : Option ℕ) (unsaved : ℕ) → unsaved ≡ 0
    → IfSome every (λ rows. unsaved < max rows 1)
none-due None unsaved none = tt
none-due (Some rows) unsaved none = omega (arith, none)
