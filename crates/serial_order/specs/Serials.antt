-- The order of all rows, and the line that tells it.
use Rattle.std.specs.Prelude.{ℕ, ◌+◌, ◌++◌, ◌==◌, List, codes, count_by, decimal, map}
use Rattle.std.specs.List.{flat_map, range_with_len}
use Rattle.tuple_trace.specs.declared.row.Row.{Row}
use Rattle.flow_model.specs.Run.{Ran}
use Rattle.flow_model.specs.Serial.{serial}

-- for each row the greatest request at which it is new, 0 if it is new at none
abbrev pub serials : Ran → List Row → List ℕ
serials ran rows = map (λ (row : Row). serial ran row.tuple.row) rows

-- how many rows come after exactly the first k requests
abbrev pub rows_after : ℕ → List ℕ → ℕ
rows_after k serial = count_by (λ number. number == k) serial

-- a space and this count
abbrev pub count_words : List ℕ → ℕ → List ℕ
count_words serial k = codes " " ++ decimal (rows_after k serial)

-- the word `serial`, and for each k from 0 up to the number of requests how many rows have it
abbrev pub serial_line : ℕ → List ℕ → List ℕ
serial_line requests serial =
    codes "serial" ++ flat_map (count_words serial) (range_with_len 0 (requests + 1)) ++ codes "\n"
