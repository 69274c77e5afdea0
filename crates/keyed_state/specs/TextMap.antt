-- Finite maps from texts.
use Rattle.std.specs.Prelude.{ℕ, List, map, Vec}
use Rattle.std.specs.Global.{Global}
use Rattle.std.specs.Ordering.{nat_cmp}
use Rattle.std.specs.declared.cmp.Ordering.{Ordering}
use Rattle.std.specs.Cmp.Lexicographic.{slice_cmp}
use Rattle.std.specs.FinMap.{FinMap, from_entries}

-- a finite map from texts, which are ordered by their bytes
abbrev pub TextMapOf : Type 0 → Type 0
TextMapOf V = FinMap (slice_cmp nat_cmp) V

-- an entry as it is stored, its text as the list of its bytes
abbrev pub shown : {V : Type 0} → Vec ℕ Global × V → List ℕ × V
shown e = (e.0.items, e.1)

-- the map of the entries that are stored
abbrev pub map_of : {V : Type 0} → List (Vec ℕ Global × V) → TextMapOf V
map_of entries = from_entries (map shown entries)

-- the order of texts as they are stored
abbrev pub text_cmp : Vec ℕ Global → Vec ℕ Global → Ordering
text_cmp a b = slice_cmp nat_cmp a.items b.items
