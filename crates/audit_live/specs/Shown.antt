-- How many rows each request waits for, as the records of an audit show it.
use Rattle.std.specs.Prelude.{ℕ, suc, List, [], ◌∷◌, codes, max, min, if◌then◌else◌}
use Rattle.payments.specs.Reading.{begins_with}
use Rattle.versions.specs.declared.request.Request.{Request}

-- The number of `fed` records before each `issued` record, if this many came before.
abbrev pub rows_shown : ℕ → List (List (List ℕ)) → List ℕ
rows_shown fed [] = []
rows_shown fed (fields ∷ more) =
    if begins_with (codes "issued") fields then fed ∷ rows_shown fed more
    else if begins_with (codes "fed") fields then rows_shown (suc fed) more
    else rows_shown fed more

-- A request waits for the rows that are shown. It waits for no fewer than `least` and than it asks
-- for, and for no more than there are.
abbrev pub wait_of : ℕ → ℕ → Request → ℕ → ℕ
wait_of rows least request shown = min (max (max least request.after) shown) rows

-- The waits of these requests, if the request before them waits for `least` rows. Requests for
-- which no rows are shown wait for all rows.
abbrev pub waits_from : ℕ → ℕ → List Request → List ℕ → List ℕ
waits_from rows least [] shown = []
waits_from rows least (request ∷ later) [] = rows ∷ waits_from rows rows later []
waits_from rows least (request ∷ later) (row ∷ more) =
    wait_of rows least request row
    ∷ waits_from rows (wait_of rows least request row) later more

-- The number of rows for which each accepted request waits, as these records show it. It depends
-- only on the first fields `fed` and `issued`, so the records may be any.
abbrev pub shown_waits : ℕ → List Request → List (List (List ℕ)) → List ℕ
shown_waits rows accepted records = waits_from rows 0 accepted (rows_shown 0 records)
