-- The delivery of a tuple, with all that it causes.
use Rattle.std.specs.Prelude.{◌≡◌, ◌++◌, ℕ, List, Contains, length, map, slice_get, None, Some}
use Rattle.std.specs.List.{AllByRecursion}
use Rattle.flow_dag.specs.Order.{place_of}
use Rattle.operators.specs.declared.output.Output.{Output}
use Rattle.sink_journal.specs.declared.journal.Entry.{Entry}
use Rattle.sink_journal.specs.declared.journal.Entry.TheVariants as entry
use Rattle.tuple_trace.specs.declared.row.Row.{Row}
use Rattle.tuple_trace.specs.declared.tuple.Item.{Item}
use Rattle.tuple_trace.specs.declared.tuple.Item.TheVariants as item
use Rattle.tuple_trace.specs.declared.tuple.Tuple.{Tuple}
use Rattle.flow_model.specs.declared.setup.Setup.{Setup}
use Rattle.flow_model.specs.Feeding.{fed_tuple}
use Rattle.flow_model.specs.Lanes.{lane_at, lane_of, lanes, lanes_in}
use Rattle.flow_model.specs.declared.topology.Lane.{Lane}
use Rattle.flow_model.specs.SetupView.{SetupView}
use Rattle.flow_model.specs.Replay.{Put, items_on, put_out}
use Rattle.jobs.specs.JobView.{JobView}
use Rattle.flow_replay.specs.declared.worker_run.WorkerRun.{WorkerRun}
use Rattle.flow_model.specs.Workers.{nth_worker}
use Rattle.flow_replay.specs.inner.Runs.{AreInForce, IsConserved, IsQuiescentFrom, journal_at}
use Rattle.flow_replay.specs.inner.Runs.{with_item}

-- the place of a node in the order of the graph: each edge leads to a higher one
abbrev pub rank_in : Setup → ℕ → ℕ
rank_in setup node = place_of setup.job.dag.order node

-- the rank of the node to which a lane leads
abbrev pub rank_behind : JobView → (ℕ → ℕ) → ℕ → ℕ
rank_behind job rank n = rank (nth_worker job (lane_at job n).receiver).node

-- the worker meets a tuple of this row, fed after `issued` requests, by one of its lanes
abbrev pub IsMeeting : JobView → ℕ → ℕ → ℕ → Entry → Type 0
IsMeeting job w row issued (entry.Met lane tuple) =
    Contains (lanes_in job w) lane × (tuple.row ≡ row) × (tuple.issued ≡ issued)
IsMeeting job w row issued (entry.Marked lane request) = ⊥
IsMeeting job w row issued (entry.Turned request) = ⊥
IsMeeting job w row issued (entry.Ended lane) = ⊥

-- a worker's journal gained meetings of one row only
pub record Meets (job : JobView) (w row issued : ℕ) (old new : List Entry) : Type 0 where
  pub more : List Entry
  pub is : new ≡ old ++ more
  pub meetings : AllByRecursion (IsMeeting job w row issued) more

-- the output is of this row, fed after `issued` requests
abbrev pub IsOfRow : ℕ → ℕ → Output → Type 0
IsOfRow row issued output = (output.tuple.row ≡ row) × (output.tuple.issued ≡ issued)

-- A tuple is processed at the end of its lane, and some outputs of it are delivered. The others
-- are left: they are in flight on the worker's lanes out.
pub record IsInFlight (setup : SetupView) (rank : ℕ → ℕ) (n : ℕ) (tuple : Tuple)
    (left : List Output) (old new : List WorkerRun) : Type 0 where
  pub long : length new ≡ length old
  pub in_force : AreInForce setup old → AreInForce setup new
  pub conserved :
      AreInForce setup old → (fed : List Put) (in_flight : Lane → List Item) →
      IsQuiescentFrom setup.job rank (rank_behind setup.job rank n) in_flight →
      IsConserved setup fed old (with_item (lane_at setup.job n) (item.Carry tuple) in_flight) →
      IsConserved setup fed new (λ (lane : Lane).
      items_on lane (map (put_out setup.job (nth_worker setup.job (lane_at setup.job n).receiver))
      left)
      ++ in_flight lane)
  pub met :
      (w : ℕ) →
      Meets setup.job w tuple.row tuple.issued (journal_at old w) (journal_at new w)
  pub of_row : AllByRecursion (IsOfRow tuple.row tuple.issued) left

-- A tuple that was on a lane is delivered, with all that it causes.
pub record IsDelivered (setup : SetupView) (rank : ℕ → ℕ) (n : ℕ) (tuple : Tuple)
    (old new : List WorkerRun) : Type 0 where
  pub long : length new ≡ length old
  pub in_force : AreInForce setup old → AreInForce setup new
  pub conserved :
      AreInForce setup old → (fed : List Put) (in_flight : Lane → List Item) →
      IsQuiescentFrom setup.job rank (rank_behind setup.job rank n) in_flight →
      IsConserved setup fed old (with_item (lane_at setup.job n) (item.Carry tuple) in_flight) →
      IsConserved setup fed new in_flight
  pub met :
      (w : ℕ) →
      Meets setup.job w tuple.row tuple.issued (journal_at old w) (journal_at new w)

-- A row was fed after `issued` requests, and delivered.
pub record IsFed (setup : SetupView) (rank : ℕ → ℕ) (row : Row) (issued : ℕ)
    (old new : List WorkerRun) : Type 0 where
  pub n : ℕ
  pub there : slice_get (lanes setup.job) n ≡ Some (lane_at setup.job n)
  pub along : lane_of setup.job None row.source 0 row.tuple ≡ Some (lane_at setup.job n)
  pub delivered : IsDelivered setup rank n (fed_tuple issued row) old new
