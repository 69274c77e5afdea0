-- The savepoint of a stream that a text tells.
use Rattle.std.specs.Prelude.{◌≡◌, ◌<◌, ◌≤◌, ◌+◌, ◌^◌, ◌==◌, ◌&&◌, ⊤, ℕ, zero, suc, List, [], ◌∷◌}
use Rattle.std.specs.Prelude.{Option, Some, None, Result, Ok, Err, codes, drop, length, nat_le}
use Rattle.std.specs.Prelude.{if◌then◌else◌}
use Rattle.csv.specs.Reading.{default_config, records, strip_bom}
use Rattle.jobs.specs.JobView.{JobView}
use Rattle.flow_model.specs.Begin.{Begin}
use Rattle.savepoint.specs.SaveReading.{CanSaveCounts, Spelled, begin_with, both, head_number}
use Rattle.savepoint.specs.SaveReading.{is_exactly, one_spelled, placed_from, spelled_from}
use Rattle.savepoint.specs.declared.fault.SaveFault.{SaveFault}
use Rattle.savepoint.specs.declared.fault.SaveFault.TheVariants as part
use Rattle.stream_save.specs.StreamText.{StreamSave}
use Rattle.stream_save.specs.declared.fault.StreamSaveFault.{StreamSaveFault}
use Rattle.stream_save.specs.declared.fault.StreamSaveFault.TheVariants as fault

-- ---- the first record

-- The numbers of a first record.
pub record Head : Type 0 where
  pub row : ℕ
  pub turned : ℕ
  pub read : ℕ
  pub alerts : ℕ
  pub audit : ℕ

-- the numbers, if all are there
abbrev pub head_with : Option (ℕ × ℕ) → Option ℕ → Option (ℕ × ℕ) → Option Head
head_with None read files = None
head_with (Some place) None files = None
head_with (Some place) (Some read) None = None
head_with (Some (row, turned)) (Some read) (Some (alerts, audit)) =
    Some
    (record { row = row; turned = turned; read = read; alerts = alerts; audit = audit })

-- the numbers of a first record, if it is of its form
abbrev pub stream_head_read : List (List ℕ) → Option Head
stream_head_read (fries ∷ stream ∷ row ∷ turned ∷ read ∷ alerts ∷ audit ∷ []) =
    if is_exactly (codes "fries") fries && is_exactly (codes "stream") stream
    then head_with (both (head_number row) (head_number turned)) (head_number read)
    (both (head_number alerts) (head_number audit))
    else None
stream_head_read _ = None

-- ---- waits

-- the row, if the number before it is this one
abbrev pub row_after_number : ℕ → Option (ℕ × ℕ) → Option ℕ
row_after_number number None = None
row_after_number number (Some (found, row)) = if found == number then Some row else None

-- the row of the wait of the request with this number, if the record is of its form
abbrev pub wait_read : ℕ → List (List ℕ) → Option ℕ
wait_read number (wait ∷ found ∷ row ∷ []) =
    if is_exactly (codes "wait") wait
    then row_after_number number (both (head_number found) (head_number row)) else None
wait_read number _ = None

-- the waits of so many requests, the first of which has this number, as has its record; or the
-- first record that isn't of the form
abbrev pub waits_read : ℕ → ℕ → List (List (List ℕ)) → Result (List ℕ) SaveFault
waits_read zero number records = Ok []
waits_read (suc left) number [] = Err (part.Shape number)
waits_read (suc left) number (first ∷ later) =
    one_spelled number (wait_read number first) (waits_read left (number + 1) later)

-- the number of the first wait that is before the one before it, or above this row
abbrev pub misplaced : ℕ → ℕ → ℕ → List ℕ → Option ℕ
misplaced row number before [] = None
misplaced row number before (wait ∷ later) =
    if nat_le before wait && nat_le wait row then misplaced row (number + 1) wait later
    else Some number

-- ---- the savepoint

-- the fault of waits or of counts as one of the savepoint; no other is told of them than a shape or
-- a state
abbrev pub fault_as_saved : SaveFault → StreamSaveFault
fault_as_saved (part.Shape number) = fault.Shape number
fault_as_saved (part.Past row) = fault.Past row
fault_as_saved (part.Count requests) = fault.Count requests
fault_as_saved (part.State number) = fault.State number
fault_as_saved part.NoMemory = fault.NoMemory

-- the savepoint with this head and these waits, which goes on from this beginning
abbrev pub saved_at : Head → List ℕ → Begin → StreamSave
saved_at head waits start =
    record {
      start = start;
      read = head.read;
      waits = waits;
      alerts = head.alerts;
      audit = head.audit;
    }

-- the savepoint that goes on from this beginning, or its fault
abbrev pub stream_save_with : Head → List ℕ → Result Begin SaveFault
    → Result StreamSave StreamSaveFault
stream_save_with head waits (Err fault) = Err (fault_as_saved fault)
stream_save_with head waits (Ok start) = Ok (saved_at head waits start)

-- the savepoint, unless a wait is misplaced
abbrev pub save_unless :
    Option ℕ → Result StreamSave StreamSaveFault → Result StreamSave StreamSaveFault
save_unless (Some number) save = Err (fault.Count number)
save_unless None save = save

-- the savepoint with this head, these waits and these counts
abbrev pub save_at :
    JobView → Head → List ℕ → List Spelled → Result StreamSave StreamSaveFault
save_at job head waits spelled =
    save_unless (misplaced head.row 1 0 waits)
    (stream_save_with head waits (begin_with job head.row head.turned
    (placed_from job (head.turned + 1) None spelled)))

-- the savepoint by its waits and what the later records spell, or the first fault of their form
abbrev pub save_by :
    JobView → Head → Result (List ℕ) SaveFault → Result (List Spelled) SaveFault →
    Result StreamSave StreamSaveFault
save_by job head (Err fault) spelled = Err (fault_as_saved fault)
save_by job head (Ok waits) (Err fault) = Err (fault_as_saved fault)
save_by job head (Ok waits) (Ok spelled) = save_at job head waits spelled

-- the savepoint by its first record, and the later records
abbrev pub save_after :
    JobView → Option Head → List (List (List ℕ)) → Result StreamSave StreamSaveFault
save_after job None later = Err (fault.Shape 0)
save_after job (Some head) later =
    save_by job head (waits_read head.turned 1 later)
    (spelled_from (head.turned + 1) (drop head.turned later))

-- the savepoint that these records tell; their form is judged first, then the waits, and then the
-- counts
abbrev pub stream_save_in : JobView → List (List (List ℕ)) → Result StreamSave StreamSaveFault
stream_save_in job [] = Err (fault.Shape 0)
stream_save_in job (head ∷ later) = save_after job (stream_head_read head) later

-- the savepoint of a stream that a text tells, or the text's first fault
abbrev pub stream_save_of : JobView → List ℕ → Result StreamSave StreamSaveFault
stream_save_of job bytes = stream_save_in job (records default_config (strip_bom bytes))

-- the waits come in order: none is before the one before it, or above this row
abbrev pub AreWaits : ℕ → ℕ → List ℕ → Type 0
AreWaits row before [] = ⊤
AreWaits row before (wait ∷ later) =
    (before ≤ wait) × (wait ≤ row) × AreWaits row wait later

-- What can be saved of a stream and read again: the numbers are below 2^63. Each request that was
-- turned has its wait, and the waits come in order, none above the row. The counts can be saved.
pub record CanSaveStream (job : JobView) (save : StreamSave) : Type 0 where
  pub row : save.start.row < 2 ^ 63
  pub turned : save.start.turned < 2 ^ 63
  pub read : save.read < 2 ^ 63
  pub alerts : save.alerts < 2 ^ 63
  pub audit : save.audit < 2 ^ 63
  pub one_each : save.start.turned ≡ length save.waits
  pub waits : AreWaits save.start.row 0 save.waits
  pub states : CanSaveCounts job save.start.states
