-- The lines that the program prints.
use Rattle.std.specs.Prelude.{◌==◌, ◌+◌, ℕ, Bool, true, false, List, [], ◌∷◌, ◌++◌, codes, count_by}
use Rattle.std.specs.Prelude.{decimal, drop, filter, if◌then◌else◌, is_some, length, map}
use Rattle.std.specs.Prelude.{slice_get, sum_by, take}
use Rattle.std.specs.List.{enumerate_from, flat_map, join_with_byte, list_any, range_with_len}
use Rattle.cover_planner.specs.declared.cover.Plan.{Plan}
use Rattle.flow_dag.specs.Masks.{has}
use Rattle.flow_dag.specs.declared.edge.Edge.{Edge}
use Rattle.jobs.specs.declared.func.Func.{Func}
use Rattle.jobs.specs.declared.func.NodeDef.{NodeDef}
use Rattle.jobs.specs.Nodes.{is_sink, worker_count, workers_of}
use Rattle.jobs.specs.Weights.{weight}
use Rattle.jobs.specs.JobView.{JobView}
use Rattle.sink_journal.specs.declared.journal.Entry.{Entry}
use Rattle.sink_journal.specs.declared.journal.Feed.{Feed}
use Rattle.sink_journal.specs.declared.journal.Feed.TheVariants as feed
use Rattle.sink_journal.specs.Alerts.{met}
use Rattle.sink_journal.specs.Audit.{code_word}
use Rattle.savepoint.specs.SaveText.{name_of}
use Rattle.sink_journal.specs.declared.audit.Noted.{Noted}
use Rattle.versions.specs.declared.fault.QFault.{QFault}
use Rattle.versions.specs.declared.fault.QFault.TheVariants as refusal
use Rattle.versions.specs.declared.in_order.Refused.{Refused}
use Rattle.fries_lines.specs.declared.lines.Sizes.{Sizes}
use Rattle.fries_lines.specs.declared.lines.Summary.{Summary}

-- ---- the summary of a run

-- the feeder feeds a row
abbrev pub is_fed : Feed → Bool
is_fed (feed.Fed row) = true
is_fed (feed.Issued request) = false
is_fed feed.Stopped = false

-- how many rows were fed
abbrev pub row_count : List Feed → ℕ
row_count feeds = count_by is_fed feeds

-- how many tuples a journal met
abbrev pub met_count : List Entry → ℕ
met_count journal = count_by (λ entry. is_some (met entry)) journal

-- how many tuples the journals of a sink met; those of any other node aren't counted
abbrev pub met_by : Func → List (List Entry) → ℕ
met_by func journals = if is_sink func then sum_by met_count journals else 0

-- how many tuples reached the sinks among these nodes, each of which has as many of the journals as
-- it has workers
abbrev pub alert_count : List NodeDef → List (List Entry) → ℕ
alert_count [] journals = 0
alert_count (node ∷ nodes) journals =
    met_by node.func (take (workers_of node) journals)
    + alert_count nodes (drop (workers_of node) journals)

-- the words of a summary
abbrev pub summary_words : Summary → List ℕ
summary_words counts =
    codes "rows " ++ decimal counts.rows ++ codes " alerts " ++ decimal counts.alerts
    ++ codes " requests " ++ decimal counts.requests ++ codes " refused " ++ decimal counts.refused

-- the line that ends a run
abbrev pub summary_line : Summary → List ℕ
summary_line counts = summary_words counts ++ codes "\n"

-- ---- the sizes of a job

-- the words of the sizes of a job
abbrev pub sizes_words : Sizes → List ℕ
sizes_words sizes =
    codes "nodes " ++ decimal sizes.nodes ++ codes " edges " ++ decimal sizes.edges
    ++ codes " workers " ++ decimal sizes.workers ++ codes " weight " ++ decimal sizes.weight

-- what is counted of a job: its workers are those that keep a journal
abbrev pub sizes_of : JobView → Sizes
sizes_of job = record {
  nodes = length job.nodes;
  edges = length job.edges;
  workers = worker_count job.nodes;
  weight = weight job;
}

-- the line that `check` prints
abbrev pub sizes_line : JobView → List ℕ
sizes_line job = sizes_words (sizes_of job) ++ codes "\n"

-- ---- the plans of requests

-- texts with commas between them, and a dash where there are none
abbrev pub listed : List (List ℕ) → List ℕ
listed [] = codes "-"
listed (first ∷ later) = join_with_byte 44 (first ∷ later)

-- the names of those items whose numbers a mask has, in their order; the first item has this number
abbrev pub names_from : {X : Type 0} → (X → List ℕ) → ℕ → ℕ → List X → List (List ℕ)
names_from name mask number items =
    map (λ (number, item). name item)
    (filter (λ (number, item). has mask number) (enumerate_from number items))

-- the names of the nodes of a mask
abbrev pub node_names : List NodeDef → ℕ → List (List ℕ)
node_names nodes mask = names_from (λ node. node.name) mask 0 nodes

-- the names of the ends of an edge
unfoldable pub edge_name : List NodeDef → Edge → List ℕ
edge_name nodes edge =
    name_of (slice_get nodes edge.from) ++ codes "-" ++ name_of (slice_get nodes edge.to)

-- the names of the edges of a mask
abbrev pub edge_names : List NodeDef → List Edge → ℕ → List (List ℕ)
edge_names nodes edges mask = names_from (edge_name nodes) mask 0 edges

-- some node is of the part with this number
abbrev pub is_part : List ℕ → ℕ → Bool
is_part parts number = list_any (λ part. part == number) parts

-- how many parts there are, given that of each node; their numbers are below the number of nodes
abbrev pub part_count : List ℕ → ℕ
part_count parts = count_by (is_part parts) (range_with_len 0 (length parts))

-- the line of the plan of a request
abbrev pub plan_line : JobView → ℕ → Plan → List ℕ
plan_line job request plan =
    codes "request " ++ decimal request
    ++ codes " asked " ++ listed (node_names job.nodes plan.asked)
    ++ codes " members " ++ listed (node_names job.nodes plan.members)
    ++ codes " heads " ++ listed (node_names job.nodes plan.heads)
    ++ codes " parts " ++ decimal (part_count plan.part)
    ++ codes " edges " ++ listed (edge_names job.nodes job.edges plan.edges) ++ codes "\n"

-- the lines of the plans of requests, which are counted from 1
abbrev pub plan_lines : JobView → List Plan → List ℕ
plan_lines job plans =
    flat_map (λ (request, plan). plan_line job request plan) (enumerate_from 1 plans)

-- ---- requests that are refused

-- the number of the code by which a request is refused
abbrev pub code_of : QFault → ℕ
code_of (refusal.NoNode change) = 1
code_of (refusal.Fixed change) = 2
code_of (refusal.NodeTwice change) = 3
code_of (refusal.Stale change current) = 4
code_of (refusal.IllTyped change) = 5
code_of (refusal.KindOrKey change) = 6
code_of (refusal.BadCarry change) = 7
code_of refusal.Empty = 8
code_of (refusal.Backwards last) = 9
code_of (refusal.LateSplit change) = 10

-- what stands behind the code: what the fault names
abbrev pub named_by : QFault → List ℕ
named_by (refusal.NoNode change) = codes " change " ++ decimal change
named_by (refusal.Fixed change) = codes " change " ++ decimal change
named_by (refusal.NodeTwice change) = codes " change " ++ decimal change
named_by (refusal.Stale change current) =
    codes " change " ++ decimal change ++ codes " current " ++ decimal current
named_by (refusal.IllTyped change) = codes " change " ++ decimal change
named_by (refusal.KindOrKey change) = codes " change " ++ decimal change
named_by (refusal.BadCarry change) = codes " change " ++ decimal change
named_by refusal.Empty = []
named_by (refusal.Backwards last) = codes " last " ++ decimal last
named_by (refusal.LateSplit change) = codes " change " ++ decimal change

-- why a request is refused: a code, and what it names
abbrev pub refusal_words : QFault → List ℕ
refusal_words fault = code_word (code_of fault) ++ named_by fault

-- a refused request, as an audit notes it
abbrev pub noted : Refused → Noted
noted refused = record { place = refused.place; code = code_of refused.fault }

-- the line of a refused request
abbrev pub refused_line : Refused → List ℕ
refused_line refused =
    codes "refused " ++ decimal refused.place ++ codes " " ++ refusal_words refused.fault
    ++ codes "\n"

-- the lines of refused requests
abbrev pub refused_lines : List Refused → List ℕ
refused_lines refused = flat_map refused_line refused
