-- The function that a table has, by its kind.
use Rattle.std.specs.Prelude.{ℕ, ℤ, int_lt, List, [], ◌∷◌, codes, Result, Ok, Err, if◌then◌else◌}
use Rattle.toml.specs.Data.{Data, Members}
use Rattle.tuple_trace.specs.declared.value.Value.{Value}
use Rattle.jobs.specs.declared.column.Column.{Column}
use Rattle.jobs.specs.declared.func.Func.{Func}
use Rattle.jobs.specs.declared.func.Func.TheVariants as func
use Rattle.jobs.specs.declared.func.Operand.{Operand}
use Rattle.jobs.specs.declared.table.Table.{Table}
use Rattle.jobs.specs.Kinds.{row_of}
use Rattle.job_file.specs.declared.fault.FormFault.{FormFault}
use Rattle.job_file.specs.declared.fault.FormFault.TheVariants as fault
use Rattle.job_file.specs.declared.fault.Part.{Part}
use Rattle.job_file.specs.declared.fault.Part.TheVariants as part
use Rattle.jobs.specs.declared.kind.Kind.{Kind}
use Rattle.jobs.specs.declared.kind.Kind.TheVariants as kind
use Rattle.job_file.specs.Conds.{cond_of}
use Rattle.job_file.specs.Document.{all_of, and_then, has_only, items_of_key, text_of_key, text_of}
use Rattle.job_file.specs.Document.{value_of_key, whole_of_key}
use Rattle.job_file.specs.Literals.{literal_of, operand_of}
use Rattle.job_file.specs.Names.{column_named, table_named}
use Rattle.job_file.specs.Numbers.{nearest}
use Rattle.job_file.specs.Steps.{step_of}

-- the number of the column that is named at a key
abbrev pub column_at : List Column → List ℕ → Part → Members → Result ℕ FormFault
column_at columns key place ms =
    and_then (text_of_key key place ms) (λ name. Ok (column_named columns name))

-- the number of the table that is named at a key
abbrev pub table_at : List Table → List ℕ → Part → Members → Result ℕ FormFault
table_at tables key place ms =
    and_then (text_of_key key place ms) (λ name. Ok (table_named tables name))

-- the literal at a key
abbrev pub literal_at : List ℕ → Part → Members → Result Value FormFault
literal_at key place ms = and_then (value_of_key key place ms) (literal_of place)

-- the operand at a key: a whole number, or the column of a name
abbrev pub operand_at : List Column → List ℕ → Part → Members → Result Operand FormFault
operand_at columns key place ms = and_then (value_of_key key place ms) (operand_of columns place)

-- a text of exactly one byte
abbrev pub byte_of : Part → List ℕ → Result ℕ FormFault
byte_of place (byte ∷ []) = Ok byte
byte_of place _ = Err (fault.Shape place)

-- the byte at a key, whose text has exactly one
abbrev pub byte_at : List ℕ → Part → Members → Result ℕ FormFault
byte_at key place ms = and_then (text_of_key key place ms) (byte_of place)

-- the conditions of a filter
abbrev pub filter_in : List Column → Members → Result Func FormFault
filter_in columns ms =
    and_then (items_of_key (codes "when") part.When ms) (λ items.
    and_then (all_of (cond_of columns) items) (λ conds. Ok (func.Filter conds)))

-- the steps of a map
abbrev pub map_in : List Column → Members → Result Func FormFault
map_in columns ms =
    and_then (items_of_key (codes "steps") part.Steps ms) (λ items.
    and_then (all_of (step_of columns) items) (λ steps. Ok (func.Map steps)))

-- the enrich with these parts
abbrev pub enrich_with : ℕ → ℕ → ℕ → Value → Result Func FormFault
enrich_with key into table other =
    Ok (func.Enrich (record { key = key; into = into; table = table; other = other }))

-- a look-up: its key, its target, its table and its other value
abbrev pub enrich_in : List Column → List Table → Members → Result Func FormFault
enrich_in columns tables ms =
    and_then (column_at columns (codes "key") part.Key ms) (λ key.
    and_then (column_at columns (codes "into") part.Into ms) (λ into.
    and_then (table_at tables (codes "table") part.Table ms) (λ table.
    and_then (literal_at (codes "other") part.Other ms) (enrich_with key into table))))

-- the count with these parts
abbrev pub count_with : ℕ → Operand → ℕ → Result Func FormFault
count_with key add into = Ok (func.Count (record { key = key; add = add; into = into }))

-- a count: its key, what it adds and its target
abbrev pub count_in : List Column → Members → Result Func FormFault
count_in columns ms =
    and_then (column_at columns (codes "key") part.Key ms) (λ key.
    and_then (operand_at columns (codes "add") part.Add ms) (λ add.
    and_then (column_at columns (codes "into") part.Into ms) (count_with key add)))

-- a dedupe: its key
abbrev pub dedupe_in : List Column → Members → Result Func FormFault
dedupe_in columns ms =
    and_then (column_at columns (codes "key") part.Key ms) (λ key.
    Ok (func.Dedupe (record { key = key })))

-- the clamp with these parts: the higher number isn't below the lower one
abbrev pub clamp_with : ℕ → ℤ → ℤ → Result Func FormFault
clamp_with on low high =
    if int_lt high low then Err (fault.Shape part.High)
    else Ok (func.Clamp (record { on = on; low = low; high = high }))

-- a clamp: its column, and the two numbers between which it is brought
abbrev pub clamp_in : List Column → Members → Result Func FormFault
clamp_in columns ms =
    and_then (column_at columns (codes "on") part.On ms) (λ on.
    and_then (whole_of_key (codes "low") part.Low ms) (λ low.
    and_then (whole_of_key (codes "high") part.High ms) (clamp_with on low)))

-- the split with these parts
abbrev pub split_with : ℕ → ℕ → ℤ → Result Func FormFault
split_with on by most = Ok (func.Split (record { on = on; by = by; most = nearest most }))

-- a split: its column, its byte, and how many pieces it makes at most
abbrev pub split_in : List Column → Members → Result Func FormFault
split_in columns ms =
    and_then (column_at columns (codes "on") part.On ms) (λ on.
    and_then (byte_at (codes "by") part.By ms) (λ by.
    and_then (whole_of_key (codes "most") part.Most ms) (split_with on by)))

-- the columns that a sink lists
abbrev pub listed_of : List Column → Data → Result ℕ FormFault
listed_of columns d = and_then (text_of part.Columns d) (λ name. Ok (column_named columns name))

-- the sink of a table, with the columns that it lists
abbrev pub sink_in : List Column → Members → Result Func FormFault
sink_in columns ms =
    and_then (items_of_key (codes "columns") part.Columns ms) (λ items.
    and_then (all_of (listed_of columns) items) (λ listed. Ok (func.Sink listed)))

-- the function of a kind
abbrev pub func_by : List Column → List Table → Kind → Members → Result Func FormFault
func_by columns tables kind.Source ms = Ok func.Source
func_by columns tables kind.Filter ms = filter_in columns ms
func_by columns tables kind.Map ms = map_in columns ms
func_by columns tables kind.Enrich ms = enrich_in columns tables ms
func_by columns tables kind.Count ms = count_in columns ms
func_by columns tables kind.Dedupe ms = dedupe_in columns ms
func_by columns tables kind.Clamp ms = clamp_in columns ms
func_by columns tables kind.Split ms = split_in columns ms
func_by columns tables kind.Replicate ms = Ok func.Replicate
func_by columns tables kind.Sink ms = sink_in columns ms

-- the function of a table that may have these keys beside those of its kind: first its keys, then
-- what stands at each
abbrev pub func_in : List Column → List Table → List (List ℕ) → Kind → Members
    → Result Func FormFault
func_in columns tables beside k ms =
    if has_only beside (row_of k).keys ms then func_by columns tables k ms
    else Err (fault.Shape part.Unknown)
