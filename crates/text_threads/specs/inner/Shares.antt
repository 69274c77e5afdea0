-- Texts that are made at once, and put together.
use Rattle.std.specs.Prelude.{ℕ, Bool, true, false, List, [], Result, Ok, Err}
use Rattle.std.specs.List.{flat_map, list_all}
use Rattle.tuple_trace.specs.declared.items.NoMemory.{NoMemory}

-- whether there was memory for a text
abbrev pub is_made : Result (List ℕ) NoMemory → Bool
is_made (Ok text) = true
is_made (Err e) = false

-- the text that was made, and none if there was no memory for it
abbrev pub made : Result (List ℕ) NoMemory → List ℕ
made (Ok text) = text
made (Err e) = []

-- whether all texts were made
abbrev pub are_made : List (Result (List ℕ) NoMemory) → Bool
are_made texts = list_all is_made texts

-- the texts one after another
abbrev pub joined : List (Result (List ℕ) NoMemory) → List ℕ
joined texts = flat_map made texts
