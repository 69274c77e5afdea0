-- The rows of shares, put together.
use Rattle.std.specs.Prelude.{◌+◌, ℕ, Bool, false, is_none, List, [], ◌∷◌, Result, Ok, Err}
use Rattle.stream_rows.specs.Rows.{numbered}
use Rattle.stream_rows.specs.declared.sound.SoundRows.{SoundRows}
use Rattle.tuple_trace.specs.declared.items.NoMemory.{NoMemory}
use Rattle.tuple_trace.specs.declared.row.Row.{Row}

-- the rows as they are read if the first has this number
abbrev pub numbered_from : ℕ → List Row → List Row
numbered_from number [] = []
numbered_from number (row ∷ rows) = numbered number row ∷ numbered_from (number + 1) rows

-- a read found no fault
abbrev pub is_sound : Result SoundRows NoMemory → Bool
is_sound (Ok sound) = is_none sound.fault
is_sound (Err fault) = false

-- the rows that a read found
abbrev pub rows_in : Result SoundRows NoMemory → List Row
rows_in (Ok sound) = sound.rows
rows_in (Err fault) = []

-- the rows that the first of these reads found
abbrev pub first_of : List (Result SoundRows NoMemory) → List Row
first_of [] = []
first_of (read ∷ reads) = rows_in read
