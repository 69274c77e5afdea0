-- What stands on the lanes, and is still to be taken.
use Rattle.std.specs.Prelude.{◌≡◌, ◌≢◌, ℕ, ◌++◌, ◌∷◌, [], List, Option, Some, None, length}
use Rattle.std.specs.Prelude.{slice_get}
use Rattle.jobs.specs.JobView.{JobView}
use Rattle.sink_journal.specs.declared.journal.Feed.{Feed}
use Rattle.tuple_trace.specs.declared.row.Row.{Row}
use Rattle.tuple_trace.specs.declared.tuple.Item.{Item}
use Rattle.tuple_trace.specs.declared.tuple.Item.TheVariants as item
use Rattle.flow_model.specs.declared.topology.Lane.{Lane}
use Rattle.flow_model.specs.Feeding.{fed}
use Rattle.flow_model.specs.Lanes.{lanes}
use Rattle.flow_model.specs.Replay.{Put, items_on}
use Rattle.audit_laws.specs.declared.audit.AuditEntry.{AuditEntry}
use Rattle.audit_laws.specs.declared.audit.AuditEntry.TheVariants as kept
use Rattle.audit_laws.specs.Restoring.{items_taken, taken_from}

-- What stands on the lane with this number.
abbrev pub left_on : List (List Item) → ℕ → List Item
left_on standing n = items_taken (slice_get standing n)

-- On each lane stands what was put on it.
pub record HoldsLanes (job : JobView) (standing : List (List Item)) (puts : List Put) : Type 0 where
  pub long : length standing ≡ length (lanes job)
  pub each :
      (n : ℕ) (lane : Lane) → slice_get (lanes job) n ≡ Some lane →
      left_on standing n ≡ items_on lane puts

-- The end that the feeder puts on its lanes.
abbrev pub feeder_end : Option ℕ → List Item
feeder_end None = item.Last ∷ []
feeder_end (Some sender) = []

-- The ends of the feeder's lanes were put on them.
pub record AreAtTheirEnd (job : JobView) (old new : List (List Item)) : Type 0 where
  pub long : length new ≡ length old
  pub each :
      (n : ℕ) (lane : Lane) → slice_get (lanes job) n ≡ Some lane →
      left_on new n ≡ left_on old n ++ feeder_end lane.sender

-- On each of the feeder's lanes stands what it puts there, after so many issued requests.
pub record HoldsFeed (job : JobView) (rows : List Row) (issued : ℕ) (feeds : List Feed)
    (standing : List (List Item)) : Type 0 where
  pub long : length standing ≡ length (lanes job)
  pub each :
      (n : ℕ) (lane : Lane) → slice_get (lanes job) n ≡ Some lane → lane.sender ≡ None →
      left_on standing n ≡ fed job rows issued lane feeds ++ item.Last ∷ []

-- Some of what stood on the lane was taken, from its front.
pub record HasTaken (lane : ℕ) (old new : List (List Item)) : Type 0 where
  pub long : length new ≡ length old
  pub left : (n : ℕ) → left_on new n ≡ taken_from lane (left_on old) n

-- What is left on each lane once each of these entries took the next item of its lane.
abbrev pub taken_all : List AuditEntry → (ℕ → List Item) → ℕ → List Item
taken_all [] left = left
taken_all (kept.Met lane row birth ∷ more) left = taken_all more (taken_from lane left)
taken_all (kept.Marked lane request ∷ more) left = taken_all more (taken_from lane left)
taken_all (kept.Turned request ∷ more) left = taken_all more left
taken_all (kept.Ended lane ∷ more) left = taken_all more (taken_from lane left)

pub record HasTakenAll (journal : List AuditEntry) (old new : List (List Item)) : Type 0 where
  pub long : length new ≡ length old
  pub left : (n : ℕ) → left_on new n ≡ taken_all journal (left_on old) n

-- On each lane out of the worker stands what it sends there, and nothing else changed.
pub record HasSent (job : JobView) (w : ℕ) (on : Lane → List Item)
    (old new : List (List Item)) : Type 0 where
  pub long : length new ≡ length old
  pub out :
      (n : ℕ) (lane : Lane) → slice_get (lanes job) n ≡ Some lane → lane.sender ≡ Some w →
      left_on new n ≡ on lane
  pub others :
      (n : ℕ) (lane : Lane) → slice_get (lanes job) n ≡ Some lane → lane.sender ≢ Some w →
      left_on new n ≡ left_on old n
