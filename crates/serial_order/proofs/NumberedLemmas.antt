-- How rows get their numbers.
use Rattle.std.proofs.Common.{◌≡◌, ◌∙◌, ◌<◌, ◌≤◌, ◌+◌, ◌==◌, ◌||◌, length, ℕ, zero, suc, Bool, true, false, List, [], ◌∷◌, refl, sym, ap, arith, cond}
use Rattle.std.specs.Prelude.{slice_set}
use Rattle.std.proofs.lemmas.Bool.{eq-eqb, ne_eqb}
use Rattle.serial_order.specs.Places.{rows_numbered}

pub numbered-same : (p q : ℕ → Bool) (number row : ℕ) (xs : List ℕ) → ((r : ℕ) → p r ≡ q r) → rows_numbered p number row xs ≡ rows_numbered q number row xs
numbered-same p q number row [] e = refl
numbered-same p q number row (x ∷ xs) e =
    ap (λ b. cond b number x ∷ rows_numbered p number (row + 1) xs) (e row)
    ∙ ap (λ (l : List ℕ). cond (q row) number x ∷ l) (numbered-same p q number (row + 1) xs e)

-- no row passes
pub numbered-none : (p : ℕ → Bool) (number row : ℕ) (xs : List ℕ) → ((r : ℕ) → row ≤ r → p r ≡ false) → rows_numbered p number row xs ≡ xs
numbered-none p number row [] e = refl
numbered-none p number row (x ∷ xs) e =
    rw (e row (omega arith)) (ap (λ (l : List ℕ). x ∷ l) (numbered-none p number (row + 1) xs (λ r le. e r (omega arith))))

-- one test after the other
pub numbered-both : (p q : ℕ → Bool) (number row : ℕ) (xs : List ℕ) → rows_numbered q number row (rows_numbered p number row xs) ≡ rows_numbered (λ r. p r || q r) number row xs
numbered-both p q number row [] = refl
numbered-both p q number row (x ∷ xs) =
    ap (λ (y : ℕ). y ∷ rows_numbered q number (row + 1) (rows_numbered p number (row + 1) xs)) (go (p row) (q row))
    ∙ ap (λ (l : List ℕ). cond (p row || q row) number x ∷ l) (numbered-both p q number (row + 1) xs)
  where
    go : (a b : Bool) → cond b number (cond a number x) ≡ cond (a || b) number x
    go true true = refl
    go true false = refl
    go false true = refl
    go false false = refl

-- one row
pub numbered-set : (place row number : ℕ) (xs : List ℕ) → rows_numbered (λ r. place + row == r) number row xs ≡ slice_set xs place number
numbered-set place row number [] = refl
numbered-set zero row number (x ∷ xs) =
    ap (λ b. cond b number x ∷ rows_numbered (λ r. 0 + row == r) number (row + 1) xs) (eq-eqb (0 + row) row (omega arith))
    ∙ ap (λ (l : List ℕ). number ∷ l) (numbered-none (λ r. 0 + row == r) number (row + 1) xs (λ r le. ne_eqb (0 + row) r (λ e. absurd (omega arith))))
numbered-set (suc place) row number (x ∷ xs) =
    let other : (suc place + row == row) ≡ false = ne_eqb (suc place + row) row (λ e. absurd (omega arith)) in
    let shifted : suc place + row ≡ place + (row + 1) = omega arith in
    ap (λ b. cond b number x ∷ rows_numbered (λ r. suc place + row == r) number (row + 1) xs) other
    ∙ ap (λ (l : List ℕ). x ∷ l)
    (numbered-same (λ r. suc place + row == r) (λ r. place + (row + 1) == r) number (row + 1) xs (λ r. ap (λ k. k == r) shifted) ∙ numbered-set place (row + 1) number xs)

-- no row has number 0
pub no_row : (row number : ℕ) (xs : List ℕ) → row < 1 → rows_numbered (λ other. row == other) number 1 xs ≡ xs
no_row row number xs lt = numbered-none (λ other. row == other) number 1 xs (λ r le. ne_eqb row r (λ e. absurd (omega arith)))

pub one_row : (row place number : ℕ) (xs : List ℕ) → row ≡ place + 1 → rows_numbered (λ other. row == other) number 1 xs ≡ slice_set xs place number
one_row row place number xs e =
    numbered-same (λ other. row == other) (λ other. place + 1 == other) number 1 xs (λ other. ap (λ k. k == other) e) ∙ numbered-set place 1 number xs

set_outside : (place number : ℕ) (xs : List ℕ) → length xs ≤ place → slice_set xs place number ≡ xs
set_outside place number [] le = refl
set_outside zero number (x ∷ xs) le = absurd (omega arith)
set_outside (suc place) number (x ∷ xs) le = ap (λ (l : List ℕ). x ∷ l) (set_outside place number xs (omega arith))

-- a row after the last keeps all numbers
pub row_after : (row place number : ℕ) (xs : List ℕ) → row ≡ place + 1 → length xs ≤ place → rows_numbered (λ other. row == other) number 1 xs ≡ xs
row_after row place number xs e le = one_row row place number xs e ∙ set_outside place number xs le

-- nothing passes, whatever the row
pub none_pass : (number row : ℕ) (xs : List ℕ) → rows_numbered (λ other. false) number row xs ≡ xs
none_pass number row xs = numbered-none (λ other. false) number row xs (λ r le. refl)

-- one test of two after the other
pub numbered-split : (p q both : ℕ → Bool) (number row : ℕ) (xs : List ℕ) → ((r : ℕ) → both r ≡ (p r || q r))
    → rows_numbered q number row (rows_numbered p number row xs) ≡ rows_numbered both number row xs
numbered-split p q both number row xs e = numbered-both p q number row xs ∙ numbered-same (λ r. p r || q r) both number row xs (λ r. sym (e r))
