-- The cells of a record, and the length of what is written.
use Rattle.std.proofs.Common.{◌≡◌, ◌≤◌, ◌++◌, ℕ, zero, suc, List, [], ◌∷◌, None, Some, refl, arith, cond, get_or, length}
use Rattle.std.proofs.lemmas.List.{length-append}
use Rattle.csv.specs.Records.{field_at}
use Rattle.csv.specs.Writing.{default_writer, is_blank, row_body}
use Rattle.sink_journal.specs.Records.{record_text, records_text}

-- ---- the cells of a record

pub cell_some : (cells : List (List ℕ)) (i : ℕ) (cell : List ℕ) → field_at cells i ≡ Some cell → get_or cells i [] ≡ cell
unfolding field_at
cell_some [] i cell at = absurd (cc at)
cell_some (c ∷ cells) zero cell at = cc at
cell_some (c ∷ cells) (suc i) cell at = cell_some cells i cell at

pub cell_none : (cells : List (List ℕ)) (i : ℕ) → field_at cells i ≡ None → get_or cells i [] ≡ []
unfolding field_at
cell_none [] zero at = refl
cell_none [] (suc i) at = refl
cell_none (c ∷ cells) zero at = absurd (cc at)
cell_none (c ∷ cells) (suc i) at = cell_none cells i at

-- a record of six cells
pub six_cells : (cells : List (List ℕ)) → length cells ≡ 6
    → cells ≡ get_or cells 0 [] ∷ get_or cells 1 [] ∷ get_or cells 2 [] ∷ get_or cells 3 [] ∷ get_or cells 4 [] ∷ get_or cells 5 [] ∷ []
six_cells [] n = absurd (omega (arith, n))
six_cells (a ∷ []) n = absurd (omega (arith, n))
six_cells (a ∷ b ∷ []) n = absurd (omega (arith, n))
six_cells (a ∷ b ∷ c ∷ []) n = absurd (omega (arith, n))
six_cells (a ∷ b ∷ c ∷ d ∷ []) n = absurd (omega (arith, n))
six_cells (a ∷ b ∷ c ∷ d ∷ e ∷ []) n = absurd (omega (arith, n))
six_cells (a ∷ b ∷ c ∷ d ∷ e ∷ f ∷ []) n = refl
six_cells (a ∷ b ∷ c ∷ d ∷ e ∷ f ∷ g ∷ more) n = absurd (omega (arith, n))

-- ---- the length of what is written

pub one_byte : (fields : List (List ℕ)) → 1 ≤ length (record_text fields)
one_byte fields =
    let blank : List ℕ = cond (is_blank default_writer fields) (34 ∷ 34 ∷ []) [] in
    omega (arith, length-append (row_body default_writer fields) (blank ++ (10 ∷ [])), length-append blank (10 ∷ []))

pub as_long : (rows : List (List (List ℕ))) → length rows ≤ length (records_text rows)
as_long [] = omega arith
as_long (fields ∷ more) = omega (arith, one_byte fields, as_long more, length-append (record_text fields) (records_text more))
