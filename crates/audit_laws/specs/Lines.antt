-- The records of an audit, one by one.
use Rattle.std.specs.Prelude.{◌≡◌, ◌<◌, ◌≤◌, ◌+◌, ◌*◌, ◌^◌, ◌==◌, ⊤, ℕ, ℤ, All, AllPairs, List}
use Rattle.std.specs.Prelude.{[], ◌∷◌, ◌++◌, length, map, Option, Some, None, slice_get}
use Rattle.std.specs.Prelude.{if◌then◌else◌}
use Rattle.std.specs.Int.Signed.{mag}
use Rattle.std.specs.List.{filter_map}
use Rattle.jobs.specs.JobView.{JobView}
use Rattle.sink_journal.specs.Audit.{entry_fields, feed_fields, refused_fields, state_fields}
use Rattle.sink_journal.specs.declared.audit.Noted.{Noted}
use Rattle.sink_journal.specs.declared.journal.Feed.{Feed}
use Rattle.sink_journal.specs.declared.journal.Feed.TheVariants as feed
use Rattle.flow_model.specs.declared.topology.Lane.{Lane}
use Rattle.flow_model.specs.Lanes.{lanes}
use Rattle.audit_laws.specs.declared.audit.AuditEntry.{AuditEntry}
use Rattle.audit_laws.specs.declared.audit.AuditEntry.TheVariants as kept
use Rattle.audit_laws.specs.declared.audit.Line.{Line}
use Rattle.audit_laws.specs.declared.audit.Line.TheVariants as line
use Rattle.audit_laws.specs.Drafted.{draft}
use Rattle.audit_laws.specs.Faults.{Listed}
use Rattle.audit_laws.specs.Names.{Named, named_workers}
use Rattle.audit_fault.specs.Noting.{IsNoted}

-- ---- their fields

-- The fields of a step. They are those of each entry that an audit keeps this of.
abbrev pub kept_fields : Named → AuditEntry → List (List ℕ)
kept_fields worker entry = entry_fields worker.node worker.place (draft 0 [] entry)

-- The fields of the count of a key at a worker.
abbrev pub count_fields : Named → List ℕ × ℤ → List (List ℕ)
count_fields worker counted = state_fields worker.node worker.place counted

-- The fields of a record of a worker. There are none if there is no such worker.
abbrev pub fields_by : (Named → List (List ℕ)) → Option Named → List (List ℕ)
fields_by fields None = []
fields_by fields (Some worker) = fields worker

-- The fields of a line.
abbrev pub line_fields : List Named → Line → List (List ℕ)
line_fields workers (line.Refused noted) = refused_fields noted
line_fields workers (line.Feed step) = feed_fields step
line_fields workers (line.Step w entry) =
    fields_by (λ worker. kept_fields worker entry) (slice_get workers w)
line_fields workers (line.State w key count) =
    fields_by (λ worker. count_fields worker (key, count)) (slice_get workers w)

-- ---- their form

-- The lane leads to this worker, and its number is in range.
abbrev pub LeadsTo : JobView → ℕ → ℕ → Type 0
LeadsTo job w n =
    (n < 2 ^ 32) × (lane : Lane) × (slice_get (lanes job) n ≡ Some lane) × (lane.receiver ≡ w)

-- The entry's lane leads to this worker, and its numbers are in the ranges of their types.
abbrev pub IsEntryAt : JobView → ℕ → AuditEntry → Type 0
IsEntryAt job w (kept.Met lane row birth) =
    LeadsTo job w lane × (row < 2 ^ 64) × All (λ birth. birth < 2 ^ 32) birth
IsEntryAt job w (kept.Marked lane request) = LeadsTo job w lane × (request < 2 ^ 64)
IsEntryAt job w (kept.Turned request) = request < 2 ^ 64
IsEntryAt job w (kept.Ended lane) = LeadsTo job w lane

-- The number of the feeder's step is in the range of its type.
abbrev pub IsStep : Feed → Type 0
IsStep (feed.Fed row) = row < 2 ^ 64
IsStep (feed.Issued request) = request < 2 ^ 64
IsStep feed.Stopped = ⊤

-- The worker and the lane of a line are those of the job. Its numbers are in the ranges of their
-- types.
abbrev pub IsLawfulLine : JobView → Line → Type 0
IsLawfulLine job (line.Refused noted) = IsNoted noted
IsLawfulLine job (line.Feed step) = IsStep step
IsLawfulLine job (line.Step w entry) =
    (w < length (named_workers job.nodes)) × IsEntryAt job w entry
IsLawfulLine job (line.State w key count) =
    (w < length (named_workers job.nodes)) × (mag count < 2 ^ 63)

-- The group that a line stands in: refused requests, the feeder's steps, and of each worker its
-- journal and its counts.
abbrev pub group_of : Line → ℕ
group_of (line.Refused noted) = 0
group_of (line.Feed step) = 1
group_of (line.Step w entry) = 2 + 2 * w
group_of (line.State w key count) = 3 + 2 * w

-- The lines stand in the order of their groups.
abbrev pub StandInOrder : List Line → Type 0
StandInOrder lines = AllPairs (λ a b. group_of a ≤ group_of b) lines

-- ---- what they tell

-- The refused request of a line, if the line is of one.
abbrev pub refusal_in : Line → Option Noted
refusal_in (line.Refused noted) = Some noted
refusal_in (line.Feed step) = None
refusal_in (line.Step w entry) = None
refusal_in (line.State w key count) = None

-- The feeder's step of a line, if the line is of one.
abbrev pub feed_step_in : Line → Option Feed
feed_step_in (line.Refused noted) = None
feed_step_in (line.Feed step) = Some step
feed_step_in (line.Step w entry) = None
feed_step_in (line.State w key count) = None

-- The entry of a line, if the line is of one of this worker.
abbrev pub entry_in : ℕ → Line → Option AuditEntry
entry_in v (line.Refused noted) = None
entry_in v (line.Feed step) = None
entry_in v (line.Step w entry) = if w == v then Some entry else None
entry_in v (line.State w key count) = None

-- The count of a line, with its key, if the line is of one of this worker.
abbrev pub worker_count_in : ℕ → Line → Option (List ℕ × ℤ)
worker_count_in v (line.Refused noted) = None
worker_count_in v (line.Feed step) = None
worker_count_in v (line.Step w entry) = None
worker_count_in v (line.State w key count) = if w == v then Some (key, count) else None

-- The refused requests of these lines, in order.
abbrev pub refusals_in : List Line → List Noted
refusals_in lines = filter_map refusal_in lines

-- The feeder's steps of these lines, in order.
abbrev pub feeds_in : List Line → List Feed
feeds_in lines = filter_map feed_step_in lines

-- The entries of a worker in these lines, in order.
abbrev pub journal_in : List Line → ℕ → List AuditEntry
journal_in lines w = filter_map (entry_in w) lines

-- The counts of a worker in these lines, in order.
abbrev pub counts_in : List Line → ℕ → Listed
counts_in lines w = filter_map (worker_count_in w) lines

-- ---- the records of what was told

-- The lines of a worker: its journal, and then its counts.
abbrev pub worker_lines : ℕ → List AuditEntry → Listed → List Line
worker_lines w journal counts =
    map (line.Step w) journal ++ map (λ counted. line.State w counted.0 counted.1) counts

-- The lines of the workers from this number on.
abbrev pub lines_from : ℕ → List (List AuditEntry) → List Listed → List Line
lines_from w (journal ∷ journals) (counts ∷ states) =
    worker_lines w journal counts ++ lines_from (w + 1) journals states
lines_from w [] states = []
lines_from w (journal ∷ journals) [] = []

-- The lines of an audit: the refused requests, the feed, and then worker by worker.
abbrev pub lines_of : List Noted → List Feed → List (List AuditEntry) → List Listed → List Line
lines_of refused feeds journals states =
    map line.Refused refused ++ (map line.Feed feeds ++ lines_from 0 journals states)
