-- The parts of a cell between its dots.
use Rattle.std.specs.Prelude.{ℕ, ◌==◌, List, map}
use Rattle.std.specs.Borrow.{Bor}
use Rattle.std.specs.List.{slice_split}

abbrev pub parts_at_dots : List ℕ → List (List ℕ)
parts_at_dots text = slice_split (λ byte. byte == 46) text

abbrev pub texts_of : List (Bor (List ℕ)) → List (List ℕ)
texts_of parts = map (λ part. part.now) parts
