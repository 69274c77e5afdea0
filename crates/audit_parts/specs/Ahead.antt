-- What a reader of parts has before it.
use Rattle.std.specs.Prelude.{ℕ, Bool, true, false, List, [], ◌∷◌}
use Rattle.audit_parts.specs.Cut.{cut_parts}
use Rattle.audit_parts.specs.declared.parts.Ahead.{Ahead}
use Rattle.audit_parts.specs.declared.parts.Ahead.TheVariants as ahead

-- the first record of a part was read
abbrev pub is_read : Ahead → Bool
is_read ahead.Record = true
is_read ahead.End = false
is_read ahead.Fault = false

-- a call ran out of memory
abbrev pub is_fault : Ahead → Bool
is_fault ahead.Record = false
is_fault ahead.End = false
is_fault ahead.Fault = true

-- the parts of a record that was read and of those after it, if one was read
abbrev pub parts_from : Bool → List (List ℕ) → List (List (List ℕ))
    → List (List (List (List ℕ)))
parts_from true fields later = cut_parts (fields ∷ later)
parts_from false fields later = []
