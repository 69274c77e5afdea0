-- The order in which the plain executor turns its workers.
use Rattle.std.specs.Prelude.{◌≡◌, ℕ, All, IsTrue, List, Some, slice_get}
use Rattle.sink_journal.specs.declared.journal.Entry.{Entry}
use Rattle.tuple_trace.specs.declared.tuple.Tuple.{Tuple}
use Rattle.flow_model.specs.SetupView.{SetupView, Worker}
use Rattle.flow_model.specs.Covers.{covers}
use Rattle.flow_model.specs.Fresh.{IsUpTo}
use Rattle.flow_model.specs.Requests.{request_at}
use Rattle.flow_model.specs.Run.{Ran}
use Rattle.flow_model.specs.Whole.{after_turn, before_turn, met_tuples}
use Rattle.flow_model.specs.Workers.{workers_in}

-- among `rows` rows, the tuple is of one up to the one after which the request is issued
abbrev pub IsOfEarlierRow : SetupView → ℕ → ℕ → Tuple → Type 0
IsOfEarlierRow setup rows request tuple = IsUpTo rows (request_at setup request) tuple.row

-- the journal turns the request after every tuple of a row up to the one after which it is issued,
-- and before every tuple of a later row
pub record TurnsInOrder (setup : SetupView) (rows request : ℕ) (journal : List Entry) : Type 0 where
  pub before : All (IsOfEarlierRow setup rows request) (met_tuples (before_turn request journal))
  pub after :
      All (λ (tuple : Tuple). IsOfEarlierRow setup rows request tuple → ⊥)
      (met_tuples (after_turn request journal))

-- each worker turns each request that covers it in this order
abbrev pub IsInOrder : ℕ → Ran → Type 0
IsInOrder rows ran =
    (w : ℕ) (who : Worker) (journal : List Entry) →
    slice_get (workers_in ran.setup.job) w ≡ Some who → slice_get ran.journals w ≡ Some journal →
    (request : ℕ) → IsTrue (covers ran.setup request who.node) →
    TurnsInOrder ran.setup rows request journal
