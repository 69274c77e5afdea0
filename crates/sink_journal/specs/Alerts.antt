-- The text of what reached the sinks.
use Rattle.std.specs.Prelude.{ℕ, List, [], ◌∷◌, ◌++◌, Option, Some, None, take, drop, map, decimal, codes, slice_get, if◌then◌else◌, nat_eq}
use Rattle.std.specs.List.{enumerate_from, filter_map, flat_map, list_any}
use Rattle.jobs.specs.Nodes.{workers_of}
use Rattle.jobs.specs.JobView.{JobView}
use Rattle.jobs.specs.declared.column.Column.{Column}
use Rattle.jobs.specs.declared.column.ColumnKind.{ColumnKind}
use Rattle.jobs.specs.declared.func.Func.{Func}
use Rattle.jobs.specs.declared.func.Func.TheVariants as func
use Rattle.jobs.specs.declared.func.NodeDef.{NodeDef}
use Rattle.tuple_trace.specs.declared.tuple.Tuple.{Tuple}
use Rattle.tuple_trace.specs.declared.value.Value.{Value}
use Rattle.sink_journal.specs.Records.{records_text}
use Rattle.sink_journal.specs.Printed.{cell}
use Rattle.sink_journal.specs.declared.journal.Entry.{Entry}
use Rattle.sink_journal.specs.declared.journal.Entry.TheVariants as entry

-- the header's fields
abbrev pub header : List Column → List (List ℕ)
header columns = codes "sink" ∷ codes "row" ∷ map (λ column. column.name) columns

-- how a sink shows each column: by the column's kind, and not at all where it doesn't list the
-- column
abbrev pub layout : List Column → List ℕ → List (Option ColumnKind)
layout columns listed =
    map (λ (number, column).
    if list_any (λ n. nat_eq n number) listed then Some column.kind else None)
    (enumerate_from 0 columns)

-- what a sink with this layout shows in the columns for these fields of a tuple
abbrev pub cells : List (Option ColumnKind) → List Value → List (List ℕ)
cells layout fields =
    map (λ (number, kind). cell kind (slice_get fields number)) (enumerate_from 0 layout)

-- the fields that a sink of this name shows for a tuple
abbrev pub alert : List ℕ → List (Option ColumnKind) → Tuple → List (List ℕ)
alert name layout tuple = name ∷ decimal tuple.row ∷ cells layout tuple.fields

-- the tuple that an entry met
abbrev pub met : Entry → Option Tuple
met (entry.Met lane tuple) = Some tuple
met _ = None

-- what a sink of this name and layout shows for a journal
abbrev pub sink_alerts : List ℕ → List (Option ColumnKind) → List Entry → List (List (List ℕ))
sink_alerts name layout journal = map (alert name layout) (filter_map met journal)

-- what a node with this function shows for the journals of its workers
abbrev pub alerts_by : Func → List Column → List ℕ → List (List Entry) → List (List (List ℕ))
alerts_by (func.Sink listed) columns name journals =
    flat_map (sink_alerts name (layout columns listed)) journals
alerts_by _ columns name journals = []

-- what a node shows for the journals of its workers
abbrev pub node_alerts : List Column → NodeDef → List (List Entry) → List (List (List ℕ))
node_alerts columns node journals = alerts_by node.func columns node.name journals

-- what nodes show, each for as many of the journals as it has workers
abbrev pub all_alerts : List Column → List NodeDef → List (List Entry) → List (List (List ℕ))
all_alerts columns [] journals = []
all_alerts columns (node ∷ nodes) journals =
    node_alerts columns node (take (workers_of node) journals)
    ++ all_alerts columns nodes (drop (workers_of node) journals)

-- the text of the alerts of a run: the header, and a record for each tuple that a sink met
abbrev pub alerts : JobView → List (List Entry) → List ℕ
alerts job journals = records_text (header job.columns ∷ all_alerts job.columns job.nodes journals)
