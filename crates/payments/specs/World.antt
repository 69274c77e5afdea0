-- What lies outside the program, as a call meets it: files, and an output.
use Rattle.std.specs.Prelude.{ℕ, List, Option}
use Rattle.payments.specs.Causes.{Faults}
use Rattle.payments.specs.Files.{Draft, Files}

-- the files, if they are told; how many reads and writes of them have failed; and the draft, if
-- there is one
pub record ShelfState : Type 0 where
  pub files : Option Files
  pub faults : Faults
  pub draft : Option Draft

-- what was written to a stream, if it is told, and how many writes of it have failed
pub record SinkState : Type 0 where
  pub written : Option (List ℕ)
  pub faults : ℕ

-- the files and the output of a program
pub record World : Type 0 where
  pub shelf : ShelfState
  pub out : SinkState

-- the world with this shelf and this output
abbrev pub world : ShelfState → SinkState → World
world shelf out = record { shelf = shelf; out = out }
