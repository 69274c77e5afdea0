-- Texts that are cut.
use Rattle.std.specs.Prelude.{ℕ, ◌==◌, List, [], ◌∷◌, ◌++◌, Option, None, Some, if◌then◌else◌}

-- the pieces of a text that is cut at every byte `by`, where the first piece begins with `begun`
abbrev pub pieces_from : ℕ → List ℕ → List ℕ → List (List ℕ)
pieces_from by begun [] = begun ∷ []
pieces_from by begun (byte ∷ rest) =
    if byte == by then begun ∷ pieces_from by [] rest
    else pieces_from by (begun ++ byte ∷ []) rest

-- the pieces of a text that is cut at every byte `by`: one more than there are such bytes, and any
-- of them may be empty
abbrev pub pieces : ℕ → List ℕ → List (List ℕ)
pieces by text = pieces_from by [] text

-- the pieces of what is left of a text, if something is left
abbrev pub pieces_left : ℕ → Option (List ℕ) → List (List ℕ)
pieces_left by None = []
pieces_left by (Some text) = pieces by text
