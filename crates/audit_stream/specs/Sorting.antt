-- How the records of a stream's audit are sorted by their groups.
use Rattle.std.specs.Prelude.{◌≡◌, ◌+◌, ◌-◌, ◌==◌, ◌&&◌, ◌||◌, ℕ, zero, suc, Bool, List, []}
use Rattle.std.specs.Prelude.{◌∷◌, Some, bytes_eq, codes, decimal, filter, if◌then◌else◌, length}
use Rattle.std.specs.Prelude.{map, nat_lt, not, slice_get}
use Rattle.std.specs.List.{position_or_len, range_with_len}
use Rattle.jobs.specs.JobView.{JobView}
use Rattle.payments.specs.Reading.{begins_with}
use Rattle.sink_journal.specs.Records.{records_text}
use Rattle.audit_laws.specs.Names.{Named, named_workers}
use Rattle.audit_stream.specs.Together.{field, has_stop, tells_end, tells_step, tells_stop}

-- the record is a stop or an end
abbrev pub closes : List (List ℕ) → Bool
closes fields = tells_stop fields || tells_end fields

-- how many records stand before the last stop; 0 if there is no stop
abbrev pub stop_place : List (List (List ℕ)) → ℕ
stop_place [] = 0
stop_place (fields ∷ later) = if has_stop later then suc (stop_place later) else 0

-- the records without the stops and the ends among the first ones
abbrev pub closed_from : ℕ → List (List (List ℕ)) → List (List (List ℕ))
closed_from zero records = records
closed_from (suc stop) [] = []
closed_from (suc stop) (fields ∷ later) =
    if closes fields then closed_from stop later else fields ∷ closed_from stop later

-- ---- workers

-- a worker as a record spells it: its node, and its place there
abbrev pub SpelledWorker : Type 0
SpelledWorker = List ℕ × List ℕ

abbrev pub spelled : Named → SpelledWorker
spelled worker = (worker.node, decimal worker.place)

-- the workers of a job, in the order of their numbers
abbrev pub workers_spelled : JobView → List SpelledWorker
workers_spelled job = map spelled (named_workers job.nodes)

-- no two workers are spelled alike
abbrev pub AreDistinct : List SpelledWorker → Type 0
AreDistinct workers =
    (i k : ℕ) (worker : SpelledWorker) → slice_get workers i ≡ Some worker →
    slice_get workers k ≡ Some worker → i ≡ k

-- the worker is spelled by these two fields
abbrev pub is_spelled : List ℕ → List ℕ → SpelledWorker → Bool
is_spelled node place worker = bytes_eq worker.0 node && bytes_eq worker.1 place

-- the number of the first worker that is spelled so, and that past the last one if none is
abbrev pub number_spelled : List SpelledWorker → List ℕ → List ℕ → ℕ
number_spelled workers node place = position_or_len (is_spelled node place) workers

-- ---- groups

-- the group of a record, of groups for these workers
abbrev pub group_among : List SpelledWorker → List (List ℕ) → ℕ
group_among workers fields =
    if begins_with (codes "refused") fields then 0
    else if tells_step fields then 1
    else 2 + number_spelled workers (field 1 fields) (field 2 fields)

-- the text of a group
abbrev pub group_text : List SpelledWorker → List (List (List ℕ)) → ℕ → List ℕ
group_text workers records group =
    records_text (filter (λ fields. group_among workers fields == group) records)

-- the text of each group
abbrev pub group_texts : List SpelledWorker → List (List (List ℕ)) → List (List ℕ)
group_texts workers records =
    map (group_text workers records) (range_with_len 0 (3 + length workers))

-- ---- places

-- the record is left out if so many records stand up to the last stop
abbrev pub is_left_out : ℕ → List (List ℕ) → Bool
is_left_out stop fields = nat_lt 0 stop && closes fields

-- the places of the records of a group, without the stops and the ends among the first ones; the
-- first record has this place
abbrev pub places_from : List SpelledWorker → ℕ → ℕ → ℕ → List (List (List ℕ)) → List ℕ
places_from workers group stop place [] = []
places_from workers group stop place (fields ∷ later) =
    if is_left_out stop fields || not (group_among workers fields == group)
    then places_from workers group (stop - 1) (place + 1) later
    else place ∷ places_from workers group (stop - 1) (place + 1) later

-- the places of each group, of the records after the header
abbrev pub place_lists : List SpelledWorker → ℕ → List (List (List ℕ)) → List (List ℕ)
place_lists workers stop records =
    map (λ group. places_from workers group stop 1 records) (range_with_len 0 (3 + length workers))
