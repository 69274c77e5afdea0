-- The text of a savepoint.
use Rattle.std.specs.Prelude.{ℕ, ℤ, List, [], ◌∷◌, Option, Some, None, map, codes, decimal}
use Rattle.std.specs.Prelude.{slice_get}
use Rattle.std.specs.Fmt.{signed_decimal}
use Rattle.std.specs.FinMap.{entries}
use Rattle.std.specs.List.{flat_map, zip}
use Rattle.jobs.specs.JobView.{JobView}
use Rattle.jobs.specs.declared.func.NodeDef.{NodeDef}
use Rattle.keyed_state.specs.Counts.{Counts}
use Rattle.sink_journal.specs.Records.{records_text}
use Rattle.flow_model.specs.Begin.{Begin}
use Rattle.flow_model.specs.SetupView.{Worker}
use Rattle.flow_model.specs.Workers.{workers_in}

-- the first record: what the text is, the row, and how many requests were turned
abbrev pub head_record : ℕ → ℕ → List (List ℕ)
head_record row turned = codes "fries" ∷ codes "save" ∷ decimal row ∷ decimal turned ∷ []

-- the record of one count: the node's name, the worker's place at the node, the key and its count
abbrev pub count_record : List ℕ → ℕ → List ℕ × ℤ → List (List ℕ)
count_record name place (key, count) = name ∷ decimal place ∷ key ∷ signed_decimal count ∷ []

-- the name of a node: empty if there is none
abbrev pub name_of : Option NodeDef → List ℕ
name_of None = []
name_of (Some def) = def.name

-- the records of a worker, in the order of its keys by their bytes
abbrev pub records_of_worker : JobView → Worker × Counts → List (List (List ℕ))
records_of_worker job (who, counts) =
    map (count_record (name_of (slice_get job.nodes who.node)) who.place) (entries counts)

-- the records of all counts: the workers come in the order of their numbers
abbrev pub count_records : JobView → List Counts → List (List (List ℕ))
count_records job states = flat_map (records_of_worker job) (zip (workers_in job) states)

-- all records
abbrev pub save_records : JobView → Begin → List (List (List ℕ))
save_records job begin =
    head_record begin.row begin.turned ∷ count_records job begin.states

-- the text of a savepoint: all its records
abbrev pub save_text : JobView → Begin → List ℕ
save_text job begin = records_text (save_records job begin)
