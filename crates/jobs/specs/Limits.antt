-- Sizes and their limits.
use Rattle.std.specs.Prelude.{◌≡◌, ℕ, ℤ, pos, ◌+◌, ◌≤◌, ◌&&◌, All, List, [], ◌∷◌, length, Option, Some, None, min, nat_le, if◌then◌else◌}
use Rattle.std.specs.Option.{option_or}
use Rattle.std.specs.FinMap as finite
use Rattle.tuple_trace.specs.Values.{as_text}
use Rattle.tuple_trace.specs.declared.tuple.Tuple.{Tuple}
use Rattle.tuple_trace.specs.declared.value.Value.{Value}
use Rattle.tuple_trace.specs.declared.value.Value.TheVariants as value
use Rattle.jobs.specs.declared.fault.Which.{Which}
use Rattle.jobs.specs.declared.fault.Which.TheVariants as which
use Rattle.jobs.specs.declared.func.Cond.{Cond}
use Rattle.jobs.specs.declared.func.Func.{Func}
use Rattle.jobs.specs.declared.func.Func.TheVariants as func
use Rattle.jobs.specs.declared.func.NodeDef.{NodeDef}
use Rattle.jobs.specs.declared.table.Table.{Table}
use Rattle.flow_dag.specs.declared.edge.Edge.{Edge}
use Rattle.jobs.specs.Names.{named_out_count}
use Rattle.jobs.specs.Nodes.{fan_out, most_roof, most_workers, worker_count}
use Rattle.jobs.specs.JobView.{JobView}
use Rattle.jobs.specs.declared.limits.TheConstants.{MAX_COLUMNS, MAX_CONDITIONS, MAX_ENTRIES, MAX_PIECES, MAX_STEPS, MAX_WORKERS, TEXT_MAX}
use Rattle.flow_dag.specs.declared.limits.TheConstants.{MAX_EDGES, MAX_NODES}

-- a size that is outside of its limits: what it is a size of, and its number, cut to 64 bits
abbrev pub Oversize : Type 0
Oversize = Which × ℤ

-- the number as a fault keeps it: the greatest of 64 bits stands for every greater one
abbrev pub kept : ℕ → ℤ
kept number = pos (min number 9223372036854775807)

-- the size and its number, if the number isn't from `least` to `most`
abbrev pub outside : Which → ℕ → ℕ → ℕ → Option Oversize
outside which least most number =
    if nat_le least number && nat_le number most then None else Some (which, kept number)

-- the first size that is outside of its limits, of those that the items have
abbrev pub first_oversize : {A : Type 0} → (A → Option Oversize) → List A → Option Oversize
first_oversize size [] = None
first_oversize size (x ∷ xs) = option_or (size x) (first_oversize size xs)

-- the length of a text of a table or a literal, if it is above `TEXT_MAX` bytes
abbrev pub text_oversize : List ℕ → Option Oversize
text_oversize text = outside which.Text 0 TEXT_MAX (length text)

-- the value is no text of more than `TEXT_MAX` bytes
abbrev pub IsShort : Value → Type 0
IsShort value = length (as_text (Some value)) ≤ TEXT_MAX

-- no text of the tuple has more than `TEXT_MAX` bytes
abbrev pub HasShortTexts : Tuple → Type 0
HasShortTexts tuple = All IsShort tuple.fields

-- the length of a value that is a text, if it is above its limit; a number has no size
abbrev pub value_oversize : Value → Option Oversize
value_oversize (value.Num number) = None
value_oversize (value.Text text) = text_oversize text

-- the length of a condition's literal, if it is above its limit
abbrev pub literal_oversize : Cond → Option Oversize
literal_oversize cond = value_oversize cond.literal

-- the first size of a function that is outside of its limits: a filter has up to 8 conditions, a
-- map up to 8 steps, a split makes 1 to 16 pieces, and literals and `other` are short
abbrev pub oversize : Func → Option Oversize
oversize (func.Filter conds) =
    option_or (outside which.Conditions 0 MAX_CONDITIONS (length conds))
    (first_oversize literal_oversize conds)
oversize (func.Map steps) = outside which.Steps 0 MAX_STEPS (length steps)
oversize (func.Enrich lookup) = value_oversize lookup.other
oversize (func.Split split) = outside which.Most 1 MAX_PIECES split.most
oversize _ = None

-- the first size of a node's function that is outside of its limits
abbrev pub func_oversize : NodeDef → Option Oversize
func_oversize node = oversize node.func

-- a node's workers, if they are outside of their limits: 1 for a source and a sink, and 1 to 8 for
-- every other node
abbrev pub workers_oversize : NodeDef → Option Oversize
workers_oversize node = outside which.Workers 1 (most_workers node.func) node.workers

-- the edges that bear on a node's roof: those that leave a node of its name
abbrev pub most_roof_of : List NodeDef → List Edge → NodeDef → ℕ
most_roof_of nodes edges node = most_roof node.func (named_out_count nodes edges node.name)

-- a node's roof, if it is below the fan-out of the node's own function, or above what its kind and
-- edges allow
abbrev pub roof_oversize : List NodeDef → List Edge → NodeDef → Option Oversize
roof_oversize nodes edges node =
    outside which.Roof (fan_out node.func) (most_roof_of nodes edges node) node.roof

-- how many entries the tables have together
abbrev pub entry_count : List Table → ℕ
entry_count [] = 0
entry_count (table ∷ tables) = finite.len table.entries + entry_count tables

-- the length of the text of an entry or else of its value, if it is above its limit
abbrev pub entry_oversize : List ℕ × Value → Option Oversize
entry_oversize entry = option_or (text_oversize entry.0) (value_oversize entry.1)

-- the first length of the entries of a table that is above its limit, in the order of their texts
abbrev pub table_oversize : Table → Option Oversize
table_oversize table = first_oversize entry_oversize (finite.entries table.entries)

-- the first size of the job that is outside of its limits, in this order
abbrev pub first_oversize_of : JobView → Option Oversize
first_oversize_of job =
    option_or (outside which.Nodes 1 MAX_NODES (length job.nodes))
    (option_or (outside which.Edges 0 MAX_EDGES (length job.edges))
    (option_or (outside which.Columns 1 MAX_COLUMNS (length job.columns))
    (option_or (first_oversize workers_oversize job.nodes)
    (option_or (outside which.AllWorkers 0 MAX_WORKERS (worker_count job.nodes))
    (option_or (outside which.Entries 0 MAX_ENTRIES (entry_count job.tables))
    (option_or (first_oversize table_oversize job.tables)
    (option_or (first_oversize func_oversize job.nodes)
    (first_oversize (roof_oversize job.nodes job.edges) job.nodes))))))))

-- every size is within its limits
pub record HasLimits (job : JobView) : Type 0 where
  pub nodes : (1 ≤ length job.nodes) × (length job.nodes ≤ MAX_NODES)
  pub edges : length job.edges ≤ MAX_EDGES
  pub columns : (1 ≤ length job.columns) × (length job.columns ≤ MAX_COLUMNS)
  pub workers : All (λ node. (1 ≤ node.workers) × (node.workers ≤ most_workers node.func)) job.nodes
  pub all_workers : worker_count job.nodes ≤ MAX_WORKERS
  pub entries : entry_count job.tables ≤ MAX_ENTRIES
  pub texts : All (λ table. table_oversize table ≡ None) job.tables
  pub functions : All (λ node. oversize node.func ≡ None) job.nodes
  pub roofs :
      All (λ node. (fan_out node.func ≤ node.roof)
      × (node.roof ≤ most_roof_of job.nodes job.edges node)) job.nodes
