-- What is checked of an audit.
use Rattle.std.specs.Prelude.{◌≡◌, ℕ, List, length, map, Some, slice_get}
use Rattle.keyed_state.specs.Counts.{Counts}
use Rattle.sink_journal.specs.declared.journal.Entry.{Entry}
use Rattle.tuple_trace.specs.declared.row.Row.{Row}
use Rattle.flow_model.specs.declared.topology.Lane.{Lane}
use Rattle.flow_model.specs.Begin.{Begin}
use Rattle.flow_model.specs.Lanes.{lanes}
use Rattle.flow_model.specs.Law.{IsFinished}
use Rattle.flow_model.specs.SetupView.{SetupView, Worker}
use Rattle.flow_model.specs.Replay.{shown}
use Rattle.flow_model.specs.Run.{final_counts}
use Rattle.flow_model.specs.Duties.{duties}
use Rattle.flow_model.specs.Workers.{workers_in}
use Rattle.audit_laws.specs.declared.audit.AuditEntry.{AuditEntry}
use Rattle.audit_laws.specs.Delivered.{delivered, feed_of}
use Rattle.audit_laws.specs.Drafted.{drafted}
use Rattle.audit_laws.specs.Trimmed.{trimmed}

-- The trimmed journal of a worker is finished.
abbrev pub IsFinishedDraft :
    Begin → SetupView → List Row → Worker → List AuditEntry → Type 0
IsFinishedDraft begin setup rows who journal =
    IsFinished (duties setup begin.turned who)
    (drafted begin.turned (feed_of begin setup rows) journal)

-- Each lane into the worker shows, in order, what it brings.
abbrev pub ShowsDelivered :
    Begin → SetupView → List Row → List (List Entry) → ℕ → List Entry → Type 0
ShowsDelivered begin setup rows journals w journal =
    (n : ℕ) (lane : Lane) → slice_get (lanes setup.job) n ≡ Some lane → lane.receiver ≡ w →
    delivered begin setup rows journals lane ≡ Some (shown setup n journal)

-- These journals are restored from the trimmed ones. The law holds of the trimmed journals, and the
-- counts are those of the replays, from the counts at the beginning on.
pub record IsChecked (begin : Begin) (setup : SetupView) (rows : List Row)
    (audit : List (List AuditEntry)) (journals : List (List Entry))
    (states : List Counts) : Type 0 where
  pub one_start_each : length begin.states ≡ length (workers_in setup.job)
  pub one_journal_each : length audit ≡ length (workers_in setup.job)
  pub one_state_each : length states ≡ length (workers_in setup.job)
  pub restored : map trimmed journals ≡ audit
  pub finished :
      (w : ℕ) (who : Worker) (journal : List AuditEntry) →
      slice_get (workers_in setup.job) w ≡ Some who → slice_get audit w ≡ Some journal →
      IsFinishedDraft begin setup rows who journal
  pub delivered_is_shown :
      (w : ℕ) (journal : List Entry) → slice_get journals w ≡ Some journal →
      ShowsDelivered begin setup rows journals w journal
  pub states_are :
      (w : ℕ) (who : Worker) (counts : Counts) (journal : List Entry) →
      slice_get (workers_in setup.job) w ≡ Some who → slice_get begin.states w ≡ Some counts →
      slice_get journals w ≡ Some journal →
      slice_get states w ≡ Some (final_counts setup begin who counts journal)
