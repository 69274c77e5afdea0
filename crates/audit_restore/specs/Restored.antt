-- How far journals are restored.
use Rattle.std.specs.Prelude.{◌≡◌, ◌≢◌, ◌<◌, ◌==◌, ⊤, ℕ, List, filter, map, take, slice_set, Option}
use Rattle.std.specs.Prelude.{Some, None, length, slice_get}
use Rattle.std.specs.FinMap.{entries}
use Rattle.keyed_state.specs.Counts.{Counts}
use Rattle.sink_journal.specs.declared.journal.Entry.{Entry}
use Rattle.tuple_trace.specs.declared.row.Row.{Row}
use Rattle.tuple_trace.specs.declared.tuple.Item.{Item}
use Rattle.flow_model.specs.declared.topology.Lane.{Lane}
use Rattle.flow_model.specs.Begin.{Begin}
use Rattle.flow_model.specs.Duties.{numbers_from}
use Rattle.flow_model.specs.Lanes.{lanes}
use Rattle.flow_model.specs.SetupView.{SetupView, Worker}
use Rattle.flow_model.specs.Run.{final_counts}
use Rattle.flow_model.specs.Workers.{nth_worker, workers_in}
use Rattle.jobs.specs.JobView.{JobView}
use Rattle.audit_laws.specs.declared.audit.AuditEntry.{AuditEntry}
use Rattle.audit_fault.specs.declared.fault.AuditFault.{AuditFault}
use Rattle.audit_fault.specs.declared.fault.AuditFault.TheVariants as fault
use Rattle.audit_laws.specs.Delivered.{delivered}
use Rattle.audit_laws.specs.Faults.{AreItems, ComesBefore, HasBadLane, IsRestored}
use Rattle.audit_laws.specs.Faults.{Listed}
use Rattle.audit_laws.specs.Restoring.{restored}
use Rattle.flow_model.specs.Replay.{items_sent}
use Rattle.flow_replay.specs.Sent.{begun_counts, begun_view}
use Rattle.audit_restore.specs.declared.restore.Restored.{Restored}
use Rattle.audit_restore.specs.Standing.{left_on, taken_all}

-- The workers in the order of their nodes, and those of a node by their numbers.
pub record IsOrder (job : JobView) (order : List ℕ) (workers : List ℕ) : Type 0 where
  pub within : (i w : ℕ) → slice_get workers i ≡ Some w → w < length (workers_in job)
  pub all : (w : ℕ) → w < length (workers_in job) → (i : ℕ) × (slice_get workers i ≡ Some w)
  pub sorted :
      (i j v w : ℕ) → slice_get workers i ≡ Some v → slice_get workers j ≡ Some w → i < j →
      ComesBefore order (nth_worker job v) (nth_worker job w)

-- The worker is among the first ones of these.
abbrev pub IsAmongFirst : List ℕ → ℕ → ℕ → Type 0
IsAmongFirst workers k w = (i : ℕ) × (i < k) × (slice_get workers i ≡ Some w)

-- The sender is the feeder, or is among them.
abbrev pub IsReady : List ℕ → ℕ → Option ℕ → Type 0
IsReady workers k None = ⊤
IsReady workers k (Some w) = IsAmongFirst workers k w

-- The counts of each of them are those of its replay, from its counts at the beginning on.
abbrev pub AreCounted :
    Begin → SetupView → List (List Entry) → List Counts → (ℕ → Type 0) → Type 0
AreCounted begin setup journals states done =
    (w : ℕ) (who : Worker) (counts : Counts) (journal : List Entry) → done w →
    slice_get (workers_in setup.job) w ≡ Some who → slice_get begin.states w ≡ Some counts →
    slice_get journals w ≡ Some journal →
    slice_get states w ≡ Some (final_counts setup begin who counts journal)

-- The journals of the first workers are restored. What they and the feeder send to the others
-- stands on the lanes.
pub record AreRestored (begin : Begin) (setup : SetupView) (rows : List Row)
    (audit : List (List AuditEntry)) (workers : List ℕ) (k : ℕ) (journals : List (List Entry))
    (states : List Counts) (standing : List (List Item)) : Type 0 where
  pub journals_long : length journals ≡ length (workers_in setup.job)
  pub states_long : length states ≡ length (workers_in setup.job)
  pub standing_long : length standing ≡ length (lanes setup.job)
  pub restored : (w : ℕ) → IsAmongFirst workers k w → IsRestored begin setup rows audit journals w
  pub counted : AreCounted begin setup journals states (IsAmongFirst workers k)
  pub brings :
      (n : ℕ) (lane : Lane) → slice_get (lanes setup.job) n ≡ Some lane →
      IsReady workers k lane.sender → (IsAmongFirst workers k lane.receiver → ⊥) →
      delivered begin setup rows journals lane ≡ Some (left_on standing n)

-- The journals of all workers are restored.
pub record AllRestored (begin : Begin) (setup : SetupView) (rows : List Row)
    (audit : List (List AuditEntry)) (journals : List (List Entry))
    (states : List Counts) : Type 0 where
  pub journals_long : length journals ≡ length (workers_in setup.job)
  pub states_long : length states ≡ length (workers_in setup.job)
  pub restored :
      (w : ℕ) → w < length (workers_in setup.job) → IsRestored begin setup rows audit journals w
  pub counted : AreCounted begin setup journals states (λ w. w < length (workers_in setup.job))

-- The fault is the least bad lane of the first worker that has one, or out of memory.
abbrev pub IsFaultOfLanes :
    Begin → SetupView → List ℕ → List Row → List (List AuditEntry) → AuditFault → Type 0
IsFaultOfLanes begin setup order rows audit (fault.Lane n) =
    HasBadLane begin setup order rows audit n
IsFaultOfLanes begin setup order rows audit fault.NoMemory = ⊤
IsFaultOfLanes begin setup order rows audit other = ⊥

-- The entries of each lane into the worker are the items that stand on it, of the lanes below this
-- number.
abbrev pub AgreeBelow :
    SetupView → List (List Item) → ℕ → List AuditEntry → ℕ → Type 0
AgreeBelow setup standing w journal n =
    (k : ℕ) (lane : Lane) → k < n → slice_get (lanes setup.job) k ≡ Some lane →
    lane.receiver ≡ w → AreItems k (left_on standing k) journal

-- The least lane into the worker of which the entries aren't the items that stand on it.
pub record IsBadLane (setup : SetupView) (standing : List (List Item)) (w : ℕ)
    (journal : List AuditEntry) (n : ℕ) : Type 0 where
  pub lane : Lane
  pub lane_is : slice_get (lanes setup.job) n ≡ Some lane
  pub receives : lane.receiver ≡ w
  pub differ : ¬ AreItems n (left_on standing n) journal
  pub least : AgreeBelow setup standing w journal n

abbrev pub IsLaneFault :
    SetupView → List (List Item) → ℕ → List AuditEntry → AuditFault → Type 0
IsLaneFault setup standing w journal (fault.Lane n) = IsBadLane setup standing w journal n
IsLaneFault setup standing w journal fault.NoMemory = ⊤
IsLaneFault setup standing w journal other = ⊥

-- Of the first `count` workers, those of this node, by their numbers.
abbrev pub numbers_at : JobView → ℕ → ℕ → List ℕ
numbers_at job node count =
    filter (λ w. (nth_worker job w).node == node) (numbers_from 0 count)

-- A worker took what its trimmed journal says, and its replay is what stands on its lanes out. Its
-- journal and its counts are set.
pub record TookAndMade (begin : Begin) (setup : SetupView) (w : ℕ) (journal : List AuditEntry)
    (old new : Restored) (before after : List (List Item)) : Type 0 where
  pub journals :
      new.journals ≡ slice_set old.journals w (restored (left_on before) journal)
  pub states :
      new.states
      ≡ slice_set old.states w
      (final_counts setup begin (nth_worker setup.job w) (begun_counts begin w)
      (restored (left_on before) journal))
  pub long : length after ≡ length before
  pub out :
      (n : ℕ) (lane : Lane) → slice_get (lanes setup.job) n ≡ Some lane → lane.sender ≡ Some w →
      left_on after n
      ≡ items_sent setup (nth_worker setup.job w) (begun_view setup begin w) lane
      (restored (left_on before) journal)
  pub others :
      (n : ℕ) (lane : Lane) → slice_get (lanes setup.job) n ≡ Some lane → lane.sender ≢ Some w →
      left_on after n ≡ taken_all journal (left_on before) n

-- The first worker whose counts aren't the listed ones.
abbrev pub IsFirstOther : List Listed → List Counts → AuditFault → Type 0
IsFirstOther told states (fault.State w) =
    (w < length states) × (take w told ≡ take w (map entries states))
    × (slice_get told w ≢ slice_get (map entries states) w)
IsFirstOther told states other = ⊥
