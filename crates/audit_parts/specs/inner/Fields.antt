-- Records that were read have fields, so what is written of them is read again.
use Rattle.std.specs.Prelude.{◌≡◌, ◌<◌, ℕ, Bool, true, All, List, ◌∷◌, length}

-- a record has a field
abbrev pub HasField : List (List ℕ) → Type 0
HasField fields = 0 < length fields

-- the record that was read and those after it have fields, if one was read
abbrev pub HaveFields : Bool → List (List ℕ) → List (List (List ℕ)) → Type 0
HaveFields more fields later = more ≡ true → All HasField (fields ∷ later)
