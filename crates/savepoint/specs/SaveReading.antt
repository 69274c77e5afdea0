-- The beginning that the text of a savepoint tells.
use Rattle.std.specs.Prelude.{◌≡◌, ◌<◌, ◌≤◌, ◌+◌, ◌-◌, ◌^◌, ◌==◌, ◌&&◌, ◌||◌, ℕ, ℤ, All, Bool}
use Rattle.std.specs.Prelude.{FitsSigned, IsTrue, pos, negsuc, true, false, List, [], ◌∷◌, Option}
use Rattle.std.specs.Prelude.{Some, None, Result, Ok, Err, length, map, filter, codes, nat_eq}
use Rattle.std.specs.Prelude.{nat_le, nat_lt, option_map, position, slice_get, if◌then◌else◌}
use Rattle.std.specs.Cmp.Lexicographic.{pointwise, slice_cmp}
use Rattle.std.specs.FinMap.{entries, from_entries}
use Rattle.std.specs.Int.{w64}
use Rattle.std.specs.Ordering.{nat_cmp}
use Rattle.std.specs.Ordering.{is_lt}
use Rattle.csv.specs.Reading.{default_config, records, strip_bom}
use Rattle.tuple_trace.specs.Digits.{at_most, digits_of}
use Rattle.tuple_trace.specs.Spread.{spread_of}
use Rattle.jobs.specs.Nodes.{is_count}
use Rattle.jobs.specs.JobView.{JobView}
use Rattle.jobs.specs.declared.func.NodeDef.{NodeDef}
use Rattle.keyed_state.specs.Counts.{Counts}
use Rattle.payments.specs.Spelling.{number_in_text}
use Rattle.flow_model.specs.Begin.{Begin}
use Rattle.flow_model.specs.SetupView.{SetupView, Worker}
use Rattle.flow_model.specs.Requests.{afters}
use Rattle.flow_model.specs.Workers.{workers_in}
use Rattle.savepoint.specs.Parts.{issued_up_to}
use Rattle.savepoint.specs.SaveText.{name_of}
use Rattle.savepoint.specs.declared.fault.SaveFault.{SaveFault}
use Rattle.savepoint.specs.declared.fault.SaveFault.TheVariants as fault
use Rattle.jobs.specs.declared.limits.TheConstants.{TEXT_MAX}

-- ---- records and what they spell

-- the field is exactly this text
abbrev pub is_exactly : List ℕ → List ℕ → Bool
is_exactly wanted cell = pointwise nat_eq cell wanted

-- a number of the first record: digits, below 2^63
abbrev pub head_number : List ℕ → Option ℕ
head_number cell = at_most (2 ^ 63 - 1) (digits_of cell)

-- the two values, if both are there
abbrev pub both : {A B : Type 0} → Option A → Option B → Option (A × B)
both None second = None
both (Some a) None = None
both (Some a) (Some b) = Some (a, b)

-- the row and the number of requests of a first record
abbrev pub head_of : List (List ℕ) → Option (ℕ × ℕ)
head_of (fries ∷ save ∷ row ∷ turned ∷ []) =
    if is_exactly (codes "fries") fries && is_exactly (codes "save") save
    then both (head_number row) (head_number turned) else None
head_of _ = None

-- A count as it is spelled: the node's name, the worker's place, the key and the number.
pub record Spelled : Type 0 where
  pub name : List ℕ
  pub place : ℤ
  pub key : List ℕ
  pub count : ℤ

-- the count of this name and key, if its place and its number are there
abbrev pub spelled_by : List ℕ → List ℕ → Option (ℤ × ℤ) → Option Spelled
spelled_by name key None = None
spelled_by name key (Some (place, count)) =
    Some (record { name = name; place = place; key = key; count = count })

-- what a later record spells
abbrev pub spelled_of : List (List ℕ) → Option Spelled
spelled_of (name ∷ place ∷ key ∷ count ∷ []) =
    spelled_by name key (both (number_in_text place) (number_in_text count))
spelled_of _ = None

-- one more before the later ones, or their fault
abbrev pub one_more : {A : Type 0} → A → Result (List A) SaveFault → Result (List A) SaveFault
one_more first (Err fault) = Err fault
one_more first (Ok later) = Ok (first ∷ later)

-- what a record spells, followed by the later ones; or the first that isn't of the form
abbrev pub one_spelled : {A : Type 0} →
    ℕ → Option A → Result (List A) SaveFault → Result (List A) SaveFault
one_spelled number None later = Err (fault.Shape number)
one_spelled number (Some spelled) later = one_more spelled later

-- what these records spell; the first has this number
abbrev pub spelled_from : ℕ → List (List (List ℕ)) → Result (List Spelled) SaveFault
spelled_from number [] = Ok []
spelled_from number (first ∷ later) =
    one_spelled number (spelled_of first) (spelled_from (number + 1) later)

-- ---- counts and their workers

-- A count in its place: the worker's number, the key and the number.
pub record Placed : Type 0 where
  pub worker : ℕ
  pub key : List ℕ
  pub count : ℤ

-- the number is this place
abbrev pub is_place : ℤ → ℕ → Bool
is_place (pos n) place = n == place
is_place (negsuc n) place = false

-- the place among a node's workers to which the spread of its keys leads this key
abbrev pub place_of_key : Option NodeDef → List ℕ → ℕ
place_of_key None key = 0
place_of_key (Some def) key = spread_of key def.workers

-- the spread of the job's keys leads this key to the worker
abbrev pub is_led_to : JobView → List ℕ → Worker → Bool
is_led_to job key who = place_of_key (slice_get job.nodes who.node) key == who.place

-- the worker counts, is the one that is named, and is the one to which the key is led
abbrev pub is_worker_of : JobView → Spelled → Worker → Bool
is_worker_of job spelled who =
    is_count who.func
    && (is_exactly (name_of (slice_get job.nodes who.node)) spelled.name
    && (is_place spelled.place who.place && is_led_to job spelled.key who))

-- the count at the worker with this number
abbrev pub placed_by : Spelled → ℕ → Placed
placed_by spelled worker = record { worker = worker; key = spelled.key; count = spelled.count }

-- a count in its place, if the named worker counts, the key is led to it and isn't too long
abbrev pub placed_of : JobView → Spelled → Option Placed
placed_of job spelled =
    if nat_le (length spelled.key) TEXT_MAX
    then option_map (placed_by spelled) (position (is_worker_of job spelled) (workers_in job))
    else None

-- the count comes after the one before it: at a later worker, or with a later key by its bytes
abbrev pub stands_behind : Option Placed → Placed → Bool
stands_behind None placed = true
stands_behind (Some before) placed =
    nat_lt before.worker placed.worker
    || ((before.worker == placed.worker) && is_lt (slice_cmp nat_cmp before.key placed.key))

-- a count in its place, followed by the later ones; or a fault if it has none or comes too early
abbrev pub one_placed :
    ℕ → Option Placed → Option Placed → (Placed → Result (List Placed) SaveFault) →
    Result (List Placed) SaveFault
one_placed number before None later = Err (fault.State number)
one_placed number before (Some placed) later =
    if stands_behind before placed then one_more placed (later placed) else Err (fault.State number)

-- these counts in their places; the first has this number and comes after `before`
abbrev pub placed_from :
    JobView → ℕ → Option Placed → List Spelled → Result (List Placed) SaveFault
placed_from job number before [] = Ok []
placed_from job number before (first ∷ later) =
    one_placed number before (placed_of job first)
    (λ placed. placed_from job (number + 1) (Some placed) later)

-- ---- the beginning

-- the counts of a worker
abbrev pub counts_at : List Placed → Worker → Counts
counts_at placed who =
    from_entries (map (λ (p : Placed). (p.key, p.count))
    (filter (λ (p : Placed). p.worker == who.number) placed))

-- the beginning with these counts
abbrev pub begin_with : JobView → ℕ → ℕ → Result (List Placed) SaveFault → Result Begin SaveFault
begin_with job row turned (Err fault) = Err fault
begin_with job row turned (Ok placed) =
    Ok (record { row = row; turned = turned; states = map (counts_at placed) (workers_in job) })

-- the beginning after this row and these many requests, of `rows` rows
abbrev pub begin_at : SetupView → ℕ → ℕ × ℕ → List Spelled → Result Begin SaveFault
begin_at setup rows (row, turned) spelled =
    if nat_lt rows row then Err (fault.Past row) else
    (if turned == issued_up_to row rows (afters setup.requests)
    then begin_with setup.job row turned (placed_from setup.job 1 None spelled)
    else Err (fault.Count (issued_up_to row rows (afters setup.requests))))

-- the beginning by a first record and what the later ones spell, or the first fault of their form
abbrev pub begin_by :
    SetupView → ℕ → Option (ℕ × ℕ) → Result (List Spelled) SaveFault → Result Begin SaveFault
begin_by setup rows None later = Err (fault.Shape 0)
begin_by setup rows (Some head) (Err fault) = Err fault
begin_by setup rows (Some head) (Ok spelled) = begin_at setup rows head spelled

-- the beginning that these records tell; their form is judged first, then the row, the number of
-- requests and the counts
abbrev pub begin_in : SetupView → ℕ → List (List (List ℕ)) → Result Begin SaveFault
begin_in setup rows [] = Err (fault.Shape 0)
begin_in setup rows (head ∷ later) = begin_by setup rows (head_of head) (spelled_from 1 later)

-- the beginning that a text tells, or the text's first fault
abbrev pub save_of : SetupView → ℕ → List ℕ → Result Begin SaveFault
save_of setup rows bytes = begin_in setup rows (records default_config (strip_bom bytes))

-- Counts that can be saved and read again. Each worker has counts of short keys that are led to it,
-- and the counts fit 64 bits. A worker that doesn't count has none.
pub record CanSaveCounts (job : JobView) (states : List Counts) : Type 0 where
  pub one_each : length states ≡ length (workers_in job)
  pub counts :
      (w : ℕ) (who : Worker) (counts : Counts) → slice_get (workers_in job) w ≡ Some who →
      slice_get states w ≡ Some counts → is_count who.func ≡ false → entries counts ≡ []
  pub led :
      (w : ℕ) (who : Worker) (counts : Counts) → slice_get (workers_in job) w ≡ Some who →
      slice_get states w ≡ Some counts →
      All (λ (e : List ℕ × ℤ). IsTrue (is_led_to job e.0 who)) (entries counts)
  pub short :
      All (λ (counts : Counts).
      All (λ (e : List ℕ × ℤ). (length e.0 ≤ TEXT_MAX) × FitsSigned w64 e.1) (entries counts))
      states

-- What can be saved and read again: the row is one of the rows, and the requests are those that
-- are issued up to it. The counts can be saved.
pub record CanSave (setup : SetupView) (rows : ℕ) (begin : Begin) : Type 0 where
  pub within : begin.row ≤ rows
  pub row : begin.row < 2 ^ 63
  pub turned : begin.turned < 2 ^ 63
  pub issued : begin.turned ≡ issued_up_to begin.row rows (afters setup.requests)
  pub states : CanSaveCounts setup.job begin.states
