-- What is wrong with an audit that is the audit of no run.
use Rattle.std.specs.Prelude.{◌≡◌, ◌≢◌, ◌<◌, ◌==◌, ◌⊎◌, ⊤, ℕ, ℤ, Bool, false, List, map, filter}
use Rattle.std.specs.Prelude.{Some, slice_get}
use Rattle.std.specs.FinMap.{entries}
use Rattle.flow_dag.specs.Order.{place_of}
use Rattle.keyed_state.specs.Counts.{Counts}
use Rattle.sink_journal.specs.declared.journal.Entry.{Entry}
use Rattle.tuple_trace.specs.declared.row.Row.{Row}
use Rattle.tuple_trace.specs.declared.tuple.Item.{Item}
use Rattle.tuple_trace.specs.declared.tuple.Item.TheVariants as item
use Rattle.flow_model.specs.declared.topology.Lane.{Lane}
use Rattle.flow_model.specs.Begin.{Begin}
use Rattle.flow_model.specs.Lanes.{lanes}
use Rattle.flow_model.specs.SetupView.{SetupView, Worker}
use Rattle.flow_model.specs.Run.{final_counts}
use Rattle.flow_model.specs.Workers.{workers_in}
use Rattle.audit_laws.specs.declared.audit.AuditEntry.{AuditEntry}
use Rattle.audit_laws.specs.declared.audit.AuditEntry.TheVariants as kept
use Rattle.audit_fault.specs.declared.fault.AuditFault.{AuditFault}
use Rattle.audit_fault.specs.declared.fault.AuditFault.TheVariants as fault
use Rattle.audit_laws.specs.Delivered.{delivered}
use Rattle.audit_laws.specs.Checked.{IsFinishedDraft, ShowsDelivered}
use Rattle.audit_laws.specs.Trimmed.{trimmed}

-- ---- the law

-- The trimmed journal of this worker isn't finished. Those of the workers before it are finished.
pub record HasBadLaw (begin : Begin) (setup : SetupView) (rows : List Row)
    (audit : List (List AuditEntry)) (w : ℕ) : Type 0 where
  pub who : Worker
  pub works : slice_get (workers_in setup.job) w ≡ Some who
  pub journal : List AuditEntry
  pub there : slice_get audit w ≡ Some journal
  pub unfinished : ¬ IsFinishedDraft begin setup rows who journal
  pub least :
      (v : ℕ) (p : Worker) (j : List AuditEntry) → v < w
      → slice_get (workers_in setup.job) v ≡ Some p →
      slice_get audit v ≡ Some j → IsFinishedDraft begin setup rows p j

-- The trimmed journal of each worker is finished.
abbrev pub AreTrimmedFinished : Begin → SetupView → List Row → List (List AuditEntry) → Type 0
AreTrimmedFinished begin setup rows audit =
    (w : ℕ) (who : Worker) (journal : List AuditEntry)
    → slice_get (workers_in setup.job) w ≡ Some who →
    slice_get audit w ≡ Some journal → IsFinishedDraft begin setup rows who journal

-- ---- the lanes

-- What an audit keeps of an item that came by this lane.
abbrev pub seen : ℕ → Item → AuditEntry
seen n (item.Carry tuple) = kept.Met n tuple.row tuple.birth
seen n (item.Mark request cover) = kept.Marked n request
seen n item.Last = kept.Ended n

-- The entry takes an item of this lane.
abbrev pub comes_by : ℕ → AuditEntry → Bool
comes_by n (kept.Met lane row birth) = lane == n
comes_by n (kept.Marked lane request) = lane == n
comes_by n (kept.Turned request) = false
comes_by n (kept.Ended lane) = lane == n

-- The entries of a lane are its items.
abbrev pub AreItems : ℕ → List Item → List AuditEntry → Type 0
AreItems n items journal = map (seen n) items ≡ filter (comes_by n) journal

-- The trimmed journal of a lane's receiver shows what the lane brings if the workers have these
-- journals.
abbrev pub LaneAgrees :
    Begin → SetupView → List Row → List (List AuditEntry) → List (List Entry) → ℕ → Lane
    → Type 0
LaneAgrees begin setup rows audit journals n lane =
    (items : List Item) (journal : List AuditEntry) →
    delivered begin setup rows journals lane ≡ Some items →
    slice_get audit lane.receiver ≡ Some journal → AreItems n items journal

-- The journal of a worker is restored: its trimmed form is the audit's, and its lanes show what
-- they bring.
pub record IsRestored (begin : Begin) (setup : SetupView) (rows : List Row)
    (audit : List (List AuditEntry)) (journals : List (List Entry)) (w : ℕ) : Type 0 where
  pub journal : List Entry
  pub there : slice_get journals w ≡ Some journal
  pub kept_there : slice_get audit w ≡ Some (trimmed journal)
  pub shows : ShowsDelivered begin setup rows journals w journal

-- A worker comes before another if its node stands earlier in the order of the nodes. At one node
-- it comes before if its number is less.
abbrev pub ComesBefore : List ℕ → Worker → Worker → Type 0
ComesBefore order a b =
    (place_of order a.node < place_of order b.node) ⊎ ((a.node ≡ b.node) × (a.number < b.number))

-- The journals of all workers before one are restored. The entries of this lane into that worker
-- aren't the items that the lane brings. Those of its lanes with lesser numbers are.
pub record HasBadLane (begin : Begin) (setup : SetupView) (order : List ℕ) (rows : List Row)
    (audit : List (List AuditEntry)) (n : ℕ) : Type 0 where
  pub journals : List (List Entry)
  pub lane : Lane
  pub lane_is : slice_get (lanes setup.job) n ≡ Some lane
  pub who : Worker
  pub receives : slice_get (workers_in setup.job) lane.receiver ≡ Some who
  pub restored :
      (w : ℕ) (p : Worker) → slice_get (workers_in setup.job) w ≡ Some p → ComesBefore order p who →
      IsRestored begin setup rows audit journals w
  pub items : List Item
  pub brings : delivered begin setup rows journals lane ≡ Some items
  pub journal : List AuditEntry
  pub there : slice_get audit lane.receiver ≡ Some journal
  pub differ : ¬ AreItems n items journal
  pub least :
      (k : ℕ) (other : Lane) → k < n → slice_get (lanes setup.job) k ≡ Some other →
      other.receiver ≡ lane.receiver → LaneAgrees begin setup rows audit journals k other

-- ---- the counts

-- The counts of a worker as an audit has them: its texts in order, each with its count.
abbrev pub Listed : Type 0
Listed = List (List ℕ × ℤ)

-- All journals are restored. The counts of this worker aren't those of its replay. Those of the
-- workers before it are.
pub record HasBadState (begin : Begin) (setup : SetupView) (rows : List Row)
    (audit : List (List AuditEntry)) (states : List Listed) (w : ℕ) : Type 0 where
  pub journals : List (List Entry)
  pub restored :
      (v : ℕ) (p : Worker) → slice_get (workers_in setup.job) v ≡ Some p →
      IsRestored begin setup rows audit journals v
  pub who : Worker
  pub works : slice_get (workers_in setup.job) w ≡ Some who
  pub counts : Counts
  pub begins : slice_get begin.states w ≡ Some counts
  pub journal : List Entry
  pub there : slice_get journals w ≡ Some journal
  pub differ :
      slice_get states w ≢ Some (entries (final_counts setup begin who counts journal))
  pub least :
      (v : ℕ) (p : Worker) (c : Counts) (j : List Entry) → v < w →
      slice_get (workers_in setup.job) v ≡ Some p → slice_get begin.states v ≡ Some c →
      slice_get journals v ≡ Some j →
      slice_get states v ≡ Some (entries (final_counts setup begin p c j))

-- ---- the first code that holds, of those that look at the workers

-- The fault is the first that the workers have: of the law, then of a lane, then of the counts. Out
-- of memory says nothing.
abbrev pub IsFaultOfWorkers :
    Begin → SetupView → List ℕ → List Row → List (List AuditEntry) → List Listed → AuditFault
    → Type 0
IsFaultOfWorkers begin setup order rows audit states (fault.Shape i) = ⊥
IsFaultOfWorkers begin setup order rows audit states (fault.Refused i) = ⊥
IsFaultOfWorkers begin setup order rows audit states (fault.Feed i) = ⊥
IsFaultOfWorkers begin setup order rows audit states (fault.Law w) =
    HasBadLaw begin setup rows audit w
IsFaultOfWorkers begin setup order rows audit states (fault.Lane n) =
    AreTrimmedFinished begin setup rows audit × HasBadLane begin setup order rows audit n
IsFaultOfWorkers begin setup order rows audit states (fault.State w) =
    AreTrimmedFinished begin setup rows audit × HasBadState begin setup rows audit states w
IsFaultOfWorkers begin setup order rows audit states fault.NoMemory = ⊤
