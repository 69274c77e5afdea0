-- Lists of numbers, one for each row, and how some rows get a new number.
use Rattle.std.specs.Prelude.{ℕ, Bool, ◌+◌, false, List, [], ◌∷◌, Option, Some, None, option_map}
use Rattle.std.specs.Prelude.{if◌then◌else◌}
use Rattle.sink_journal.specs.Alerts.{met}
use Rattle.sink_journal.specs.declared.journal.Entry.{Entry}
use Rattle.tuple_trace.specs.declared.tuple.Tuple.{Tuple}
use Rattle.flow_model.specs.Whole.{after_turn, meets_row}

-- the rows that pass the test have this number; the list begins with `row`
abbrev pub rows_numbered : (ℕ → Bool) → ℕ → ℕ → List ℕ → List ℕ
rows_numbered test number row [] = []
rows_numbered test number row (old ∷ more) =
    (if test row then number else old) ∷ rows_numbered test number (row + 1) more

-- the row of the tuple that an entry met
abbrev pub row_met : Entry → Option ℕ
row_met entry = option_map (λ (tuple : Tuple). tuple.row) (met entry)

-- the journal, if there is one, meets the row after the turn of the request
abbrev pub meets_new : ℕ → ℕ → Option (List Entry) → Bool
meets_new request row None = false
meets_new request row (Some journal) = meets_row row (after_turn request journal)
