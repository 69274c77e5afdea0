-- The text of what a run was asked and did: the refused requests, the feed, and each worker's
-- journal and counts.
use Rattle.std.specs.Prelude.{◌+◌, ℕ, ℤ, List, [], ◌∷◌, ◌++◌, Option, None, Some, take, drop, map, decimal, codes}
use Rattle.std.specs.FinMap.{entries}
use Rattle.std.specs.Fmt.{signed_decimal}
use Rattle.std.specs.List.{join_with_byte}
use Rattle.jobs.specs.Nodes.{workers_of}
use Rattle.jobs.specs.JobView.{JobView}
use Rattle.jobs.specs.declared.func.NodeDef.{NodeDef}
use Rattle.keyed_state.specs.Counts.{Counts}
use Rattle.sink_journal.specs.Records.{records_text}
use Rattle.sink_journal.specs.declared.audit.Noted.{Noted}
use Rattle.sink_journal.specs.declared.journal.Entry.{Entry}
use Rattle.sink_journal.specs.declared.journal.Entry.TheVariants as entry
use Rattle.sink_journal.specs.declared.journal.Feed.{Feed}
use Rattle.sink_journal.specs.declared.journal.Feed.TheVariants as feed

-- the header's fields, which are those of every record
abbrev pub audit_header : List (List ℕ)
audit_header =
    codes "entry" ∷ codes "node" ∷ codes "worker" ∷ codes "lane" ∷ codes "number" ∷ codes "extra"
    ∷ []

-- the code by which a request is refused
abbrev pub code_word : ℕ → List ℕ
code_word code = codes "Q" ++ decimal code

-- numbers with dots between them
abbrev pub dotted : List ℕ → List ℕ
dotted numbers = join_with_byte 46 (map decimal numbers)

-- a number, where there is one
abbrev pub shown : Option ℕ → List ℕ
shown None = []
shown (Some number) = decimal number

-- a refused request: its place in the file and its code
abbrev pub refused_fields : Noted → List (List ℕ)
refused_fields noted =
    codes "refused" ∷ [] ∷ [] ∷ [] ∷ decimal noted.place ∷ code_word noted.code ∷ []

-- a step of the feeder
abbrev pub feed_fields : Feed → List (List ℕ)
feed_fields (feed.Fed row) = codes "fed" ∷ [] ∷ [] ∷ [] ∷ decimal row ∷ [] ∷ []
feed_fields (feed.Issued request) = codes "issued" ∷ [] ∷ [] ∷ [] ∷ decimal request ∷ [] ∷ []
feed_fields feed.Stopped = codes "stopped" ∷ [] ∷ [] ∷ [] ∷ [] ∷ [] ∷ []

-- a step of the worker at this place of the node with this name
abbrev pub entry_fields : List ℕ → ℕ → Entry → List (List ℕ)
entry_fields node place (entry.Met lane tuple) =
    codes "met" ∷ node ∷ decimal place ∷ decimal lane ∷ decimal tuple.row ∷ dotted tuple.birth ∷ []
entry_fields node place (entry.Marked lane request) =
    codes "marked" ∷ node ∷ decimal place ∷ decimal lane ∷ decimal request ∷ [] ∷ []
entry_fields node place (entry.Turned request) =
    codes "turned" ∷ node ∷ decimal place ∷ [] ∷ decimal request ∷ [] ∷ []
entry_fields node place (entry.Ended lane) =
    codes "ended" ∷ node ∷ decimal place ∷ decimal lane ∷ [] ∷ [] ∷ []

-- a count of that worker at the end, with its key
abbrev pub state_fields : List ℕ → ℕ → List ℕ × ℤ → List (List ℕ)
state_fields node place (key, count) =
    codes "state" ∷ node ∷ decimal place ∷ [] ∷ signed_decimal count ∷ key ∷ []

-- what a worker did, in order, and then its counts, in the order of the keys by bytes
abbrev pub worker_records : List ℕ → ℕ → List Entry → Counts → List (List (List ℕ))
worker_records node place journal counts =
    map (entry_fields node place) journal ++ map (state_fields node place) (entries counts)

-- the workers of a node, from this place on
abbrev pub workers_records : List ℕ → ℕ → List (List Entry) → List Counts → List (List (List ℕ))
workers_records node place [] states = []
workers_records node place (journal ∷ journals) [] = []
workers_records node place (journal ∷ journals) (counts ∷ states) =
    worker_records node place journal counts ++ workers_records node (place + 1) journals states

-- the workers of nodes, each of which has as many of the journals and of the states as it has
-- workers
abbrev pub nodes_records : List NodeDef → List (List Entry) → List Counts → List (List (List ℕ))
nodes_records [] journals states = []
nodes_records (node ∷ nodes) journals states =
    workers_records node.name 0 (take (workers_of node) journals) (take (workers_of node) states)
    ++ nodes_records nodes (drop (workers_of node) journals) (drop (workers_of node) states)

-- all records after the header
abbrev pub audit_records : JobView → List Noted → List Feed → List (List Entry) → List Counts
    → List (List (List ℕ))
audit_records job refused feeds journals states =
    map refused_fields refused ++ map feed_fields feeds ++ nodes_records job.nodes journals states

-- the text of the audit of a run: the header, and then all records
abbrev pub audit : JobView → List Noted → List Feed → List (List Entry) → List Counts → List ℕ
audit job refused feeds journals states =
    records_text (audit_header ∷ audit_records job refused feeds journals states)
