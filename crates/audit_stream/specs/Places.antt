-- Where the records of an audit that is put together stand in the audit of the stream.
use Rattle.std.specs.Prelude.{◌+◌, ◌==◌, ◌&&◌, ◌||◌, ℕ, List, [], ◌∷◌, if◌then◌else◌, not}
use Rattle.std.specs.List.{flat_map, range_with_len}
use Rattle.jobs.specs.JobView.{JobView}
use Rattle.audit_stream.specs.Together.{group_count, record_group, has_stop, tells_end, tells_stop}

-- the places of the records of a group, but for each stop or end that a stop follows; the first
-- record has this place
abbrev pub last_places : JobView → ℕ → ℕ → List (List (List ℕ)) → List ℕ
last_places job group place [] = []
last_places job group place (fields ∷ later) =
    if ((tells_stop fields || tells_end fields) && has_stop later)
    || not (record_group job fields == group)
    then last_places job group (place + 1) later
    else place ∷ last_places job group (place + 1) later

-- the place of the first record, and then those of the others, group by group
abbrev pub places_together : JobView → List (List (List ℕ)) → List ℕ
places_together job [] = []
places_together job (first ∷ body) =
    0 ∷ flat_map (λ group. last_places job group 1 body) (range_with_len 0 (group_count job))
