-- Rows behind others.
use Rattle.std.proofs.Common.{◌≡◌, ◌+◌, ℕ, zero, suc, [], ◌∷◌, arith, subst}
use Rattle.std.proofs.lemmas.Option.{same_Some}
use Rattle.tuple_trace.specs.FeedRows.{AreRowsAfter}
use Rattle.tuple_trace.specs.Rows.{IsRow}
use Rattle.tuple_trace.specs.declared.row.Row.{Row}

-- one row that is numbered on
pub one_row : (count : ℕ) (row : Row) → IsRow (count + 1) row → AreRowsAfter count (row ∷ [])
one_row count row is zero other h =
    let same : count + 1 ≡ count + zero + 1 = omega arith in
    subst (λ (n : ℕ). IsRow n other) same (subst (IsRow (count + 1)) (same_Some row other h) is)
one_row count row is (suc i) other h = absurd (cc)
