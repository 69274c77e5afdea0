-- The audit of a stream, put together to the audit of one run.
use Rattle.std.specs.Prelude.{◌+◌, ◌==◌, ◌&&◌, ◌||◌, ℕ, Bool, List, [], ◌∷◌, bytes_eq, codes}
use Rattle.std.specs.Prelude.{decimal, filter, get_or, if◌then◌else◌, length}
use Rattle.std.specs.List.{flat_map, list_any, position_or_len, range_with_len}
use Rattle.jobs.specs.JobView.{JobView}
use Rattle.payments.specs.Reading.{begins_with}
use Rattle.audit_laws.specs.Names.{Named, named_workers}

-- the field at this place, and an empty one past the last
abbrev pub field : ℕ → List (List ℕ) → List ℕ
field place fields = get_or fields place []

-- ---- the ends of the last part

-- the record tells that the feeder ended its lanes
abbrev pub tells_stop : List (List ℕ) → Bool
tells_stop fields = begins_with (codes "stopped") fields

-- the record tells that a worker took the end of a lane
abbrev pub tells_end : List (List ℕ) → Bool
tells_end fields = begins_with (codes "ended") fields

abbrev pub has_stop : List (List (List ℕ)) → Bool
has_stop records = list_any tells_stop records

-- the records without each stop or end that a stop follows
abbrev pub last_ends : List (List (List ℕ)) → List (List (List ℕ))
last_ends [] = []
last_ends (fields ∷ later) =
    if (tells_stop fields || tells_end fields) && has_stop later then last_ends later
    else fields ∷ last_ends later

-- ---- groups

-- the record tells a step of the feeder
abbrev pub tells_step : List (List ℕ) → Bool
tells_step fields =
    begins_with (codes "fed") fields || begins_with (codes "issued") fields || tells_stop fields

-- the second and the third field are the worker's node and its place there
abbrev pub is_of_worker : List (List ℕ) → Named → Bool
is_of_worker fields worker =
    bytes_eq worker.node (field 1 fields) && bytes_eq (decimal worker.place) (field 2 fields)

-- The group of a record: 0 for refused requests, 1 for steps of the feeder, and then one for each
-- worker, in the order of their numbers. What names no worker is in the last group.
abbrev pub record_group : JobView → List (List ℕ) → ℕ
record_group job fields =
    if begins_with (codes "refused") fields then 0
    else if tells_step fields then 1
    else 2 + position_or_len (is_of_worker fields) (named_workers job.nodes)

abbrev pub group_count : JobView → ℕ
group_count job = 3 + length (named_workers job.nodes)

-- the records of a group, in order
abbrev pub in_group : JobView → List (List (List ℕ)) → ℕ → List (List (List ℕ))
in_group job records group = filter (λ fields. record_group job fields == group) records

-- the records of each group in turn
abbrev pub by_group : JobView → List (List (List ℕ)) → List (List (List ℕ))
by_group job records = flat_map (in_group job records) (range_with_len 0 (group_count job))

-- the first record, and then the others by their groups, with the ends of the last part only
abbrev pub together : JobView → List (List (List ℕ)) → List (List (List ℕ))
together job [] = []
together job (first ∷ body) = first ∷ by_group job (last_ends body)
