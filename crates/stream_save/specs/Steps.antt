-- What a text tells, in the steps in which it is read.
use Rattle.std.specs.Prelude.{ℕ, ◌&&◌, List, [], Bool, Option, codes}
use Rattle.std.specs.Prelude.{get_or}
use Rattle.savepoint.specs.SaveReading.{both, head_number, is_exactly}
use Rattle.stream_save.specs.StreamReading.{Head, head_with, row_after_number}

-- the number that the cell at this place spells, below 2^63
abbrev pub cell_number : List (List ℕ) → ℕ → Option ℕ
cell_number cells place = head_number (get_or cells place [])

-- the numbers of a first record, which are its last five cells
abbrev pub head_numbers : List (List ℕ) → Option Head
head_numbers cells =
    head_with (both (cell_number cells 2) (cell_number cells 3)) (cell_number cells 4)
    (both (cell_number cells 5) (cell_number cells 6))

-- the row of a wait, if its number is this one
abbrev pub wait_numbers : ℕ → List (List ℕ) → Option ℕ
wait_numbers number cells =
    row_after_number number (both (cell_number cells 1) (cell_number cells 2))

-- these are the words of a first record
abbrev pub is_first_record : List ℕ → List ℕ → Bool
is_first_record fries stream =
    is_exactly (codes "fries") fries && is_exactly (codes "stream") stream
