-- What contracts see of the two endpoints of a line.
use Rattle.std.specs.Prelude.{ℕ, List, [], ◌∷◌}
use Rattle.atomic_table.specs.Seated.{TableId}

-- a teller: which line it is of, and how many releases it told
pub record TellerIs : Type 0 where
  pub line : TableId
  pub told : ℕ

-- an inbox: which line it is of, and the numbers of releases that it loaded
pub record InboxIs : Type 0 where
  pub line : TableId
  pub loads : List ℕ

-- the last of the numbers, or this one if there is none
abbrev pub last_from : ℕ → List ℕ → ℕ
last_from n [] = n
last_from n (load ∷ later) = last_from load later

-- the last load, 0 for none
abbrev pub last_load : List ℕ → ℕ
last_load loads = last_from 0 loads
