-- What one turn of a worker promises.
use Rattle.std.specs.Prelude.{◌≡◌, ◌≢◌, ◌⊎◌, ◌↔◌, ⊤, ℕ, ◌+◌, ◌<◌, List, [], ◌∷◌, ◌++◌, Bool, true}
use Rattle.std.specs.Prelude.{◌≤◌, false, length, map, Option, Some, None, IsTrue, All, Contains}
use Rattle.std.specs.Prelude.{drop}
use Rattle.std.specs.List.{list_any}
use Rattle.tuple_trace.specs.Counts.{Rose}
use Rattle.tuple_trace.specs.declared.tuple.Tuple.{Tuple}
use Rattle.marker_align.specs.Decision.{decided}
use Rattle.marker_align.specs.Hands.{is_issued}
use Rattle.marker_align.specs.declared.decision.Act.{Act}
use Rattle.marker_align.specs.declared.decision.Act.TheVariants.{Turn, Process, Close, Nothing}
use Rattle.marker_align.specs.declared.decision.Due.{Due}
use Rattle.marker_align.specs.declared.held.Hand.TheVariants.{Empty}
use Rattle.sink_journal.specs.declared.journal.Entry.{Entry}
use Rattle.sink_journal.specs.declared.journal.Entry.TheVariants.{Met, Turned}
use Rattle.flow_model.specs.Agreement.{Agreement}
use Rattle.flow_model.specs.Begin.{Begin}
use Rattle.flow_model.specs.SetupView.{SetupView, Worker as WorkerOf}
use Rattle.flow_worker.specs.Pairs.{EachOne, EachPair}
use Rattle.flow_worker.specs.Endpoints.{LaneInIs, LaneOutIs, SameIn, SameOut, sent_in_all}
use Rattle.flow_worker.specs.Endpoints.{all_taken}
use Rattle.flow_worker.specs.Endpoints.{planned}
use Rattle.flow_worker.specs.Worker.{IsWorker, WorkerIs, hands}
use Rattle.flow_worker.specs.Steps.{HasClosed, HasProcessed, HasTurned, MemoryOnly, ended_entries}
use Rattle.flow_worker.specs.Steps.{marked_entries}
use Rattle.flow_worker.specs.declared.worker.acting.Acted.{Acted}
use Rattle.flow_worker.specs.declared.worker.acting.Acted.TheVariants.{Did, Held, Starved}
use Rattle.flow_worker.specs.declared.worker.Turn as turn_type
use Rattle.flow_worker.specs.declared.worker.Turn.TheVariants as turn

-- what one act adds to the journal: nothing, a tuple, the markers and the turn of the next due, or
-- the end of each lane
abbrev pub IsFromOneAct : WorkerIs → List Entry → Type 0
IsFromOneAct w new = (new ≡ [])
    ⊎ ((lane : ℕ) × (tuple : Tuple) × (new ≡ Met lane tuple ∷ []))
    ⊎ ((due : Due) × (w.due ≡ Some due)
    × (new ≡ marked_entries due.lanes due.request 0 w.ins ++ Turned due.request ∷ []))
    ⊎ (new ≡ ended_entries w.ins)

-- the journal only grows, and by one act
abbrev pub GrowsByOneAct : WorkerIs → WorkerIs → Type 0
GrowsByOneAct w v = (new : List Entry) × (v.journal ≡ w.journal ++ new) × IsFromOneAct w new

-- what a turn added to the journal
abbrev pub added : WorkerIs → WorkerIs → List Entry
added w v = drop (length w.journal) v.journal

-- the box was polled once, and the poll returned this number
abbrev pub Polled : WorkerIs → WorkerIs → ℕ → Type 0
Polled w v n = v.owner.polls ≡ w.owner.polls ++ n ∷ []

-- a worker that has not closed polls its box once, and what it polls never falls; a closed one
-- doesn't poll
abbrev pub PollsOnce : WorkerIs → WorkerIs → Type 0
PollsOnce w v = (w.closed ≡ true → v.owner.polls ≡ w.owner.polls)
    × (w.closed ≡ false → (n : ℕ) × Polled w v n × All (λ poll. poll ≤ n) w.owner.polls)

-- the number shows the worker's next due, which it heads
abbrev pub ShowsHead : WorkerIs → ℕ → Type 0
ShowsHead w n = (due : Due) × (w.due ≡ Some due) × (due.head ≡ true) × (w.owner.turned < n)

-- control overtakes: a turn that processes a tuple has polled, and the poll showed no due of a
-- head
abbrev pub Overtakes : WorkerIs → WorkerIs → Type 0
Overtakes w v = (lane : ℕ) (tuple : Tuple) → Contains (added w v) (Met lane tuple) →
    (n : ℕ) × Polled w v n × ¬ ShowsHead w n

-- if the poll shows a due of a head, the turn turns it
abbrev pub TurnsAtPost : WorkerIs → WorkerIs → Type 0
TurnsAtPost w v = (n : ℕ) (due : Due) → Polled w v n → w.due ≡ Some due → due.head ≡ true →
    w.owner.turned < n → Contains (added w v) (Turned due.request)

-- not early: a head turns only if the poll shows its due, or a hand holds a tuple that was fed
-- after the request was issued
abbrev pub NotEarly : WorkerIs → WorkerIs → Type 0
NotEarly w v = (r : ℕ) (due : Due) → Contains (added w v) (Turned r) →
    w.due ≡ Some due → due.head ≡ true →
    ((n : ℕ) × Polled w v n × (w.owner.turned < n)) ⊎ IsTrue (list_any (is_issued r) (hands v))

-- a number that rises with each item that is sent or taken, and with each entry
abbrev pub moves : WorkerIs → ℕ
moves w = length w.journal + (all_taken w.ins + sent_in_all w.outs)

abbrev pub DryWhereEmpty : LaneInIs → LaneInIs → Type 0
DryWhereEmpty a b = b.hand ≡ Empty → Rose a.dry b.dry

abbrev pub FullWhereWaiting : LaneOutIs → LaneOutIs → Type 0
FullWhereWaiting a b = (b.waiting ≡ []) ⊎ Rose a.full b.full

abbrev pub NothingWaits : WorkerIs → Type 0
NothingWaits w = EachOne (λ (out : LaneOutIs). out.waiting ≡ []) w.outs

-- the worker has closed, and nothing waits
abbrev pub IsDone : WorkerIs → Type 0
IsDone w = (w.closed ≡ true) × NothingWaits w

-- there is no act, or one that has to wait until no output waits
abbrev pub IsHeld : Act → WorkerIs → Type 0
IsHeld (Turn r) w = ⊥
IsHeld (Process place) w = ¬ NothingWaits w
IsHeld Close w = ¬ NothingWaits w
IsHeld Nothing w = ⊤

-- there was nothing to do
pub record IsIdle (w v : WorkerIs) : Type 0 where
  pub dry : EachPair DryWhereEmpty w.ins v.ins
  pub full : EachPair FullWhereWaiting w.outs v.outs
  pub number : ℕ
  pub polled : Polled w v number
  pub no_head : ¬ ShowsHead w number
  pub posted : Bool
  pub posted_is : posted ≡ true ↔ w.owner.turned < number
  pub nothing : IsHeld (decided (hands v) v.due posted v.next) v

-- out of memory: journal, next due, function, counts and planned items are as before, and the
-- worker has not closed
pub record IsAsBefore (w v : WorkerIs) : Type 0 where
  pub journal : v.journal ≡ w.journal
  pub due : v.due ≡ w.due
  pub in_force : v.in_force ≡ w.in_force
  pub counts : v.counts ≡ w.counts
  pub planned_is : map planned v.outs ≡ map planned w.outs
  pub unclosed : v.closed ≡ false

-- no item was sent or taken, and the journal is as before
abbrev pub NothingMoved : WorkerIs → WorkerIs → Type 0
NothingMoved w v = (moves v ≡ moves w) × (v.journal ≡ w.journal)

-- the cause of each outcome
abbrev pub HasCause : turn_type.Turn → WorkerIs → WorkerIs → Type 0
HasCause turn.Moved w v = (moves w < moves v) × ¬ IsDone v
HasCause turn.Idle w v = (w.closed ≡ false → IsIdle w v)
    × (w.closed ≡ true → EachPair FullWhereWaiting w.outs v.outs)
    × NothingMoved w v × ¬ IsDone v
HasCause turn.Done w v = IsDone v
HasCause turn.NoMemory w v = IsAsBefore w v

-- the worker keeps its number, its box, and the endpoints of its lanes
pub record SameEndpoints (w v : WorkerIs) : Type 0 where
  pub number : v.number ≡ w.number
  pub ins : EachPair SameIn w.ins v.ins
  pub outs : EachPair SameOut w.outs v.outs
  pub within : v.owner.within ≡ w.owner.within

-- what one turn promises
pub record IsTurn (setup : SetupView) (result : turn_type.Turn) (w v : WorkerIs) : Type 0 where
  -- the law holds after the turn, from every beginning from which it held before
  pub law : (begin : Begin) → IsWorker setup begin w → IsWorker setup begin v
  -- the visits of the processed tuples agree with the turns
  pub agreement : Agreement setup v.journal
  pub endpoints : SameEndpoints w v
  pub grows : GrowsByOneAct w v
  pub polls : PollsOnce w v
  pub overtakes : Overtakes w v
  pub at_post : result ≢ turn.NoMemory → TurnsAtPost w v
  pub early : NotEarly w v
  pub cause : HasCause result w v

-- ---- turns that follow each other

-- each worker of the list is the one before it after one turn; the first stands before the list
abbrev pub AreTurns : SetupView → WorkerIs → List WorkerIs → Type 0
AreTurns setup w [] = ⊤
AreTurns setup w (v ∷ more) =
    ((result : turn_type.Turn) × IsTurn setup result w v) × AreTurns setup v more

-- the journal is the earlier one, or goes on with the turn for the request
abbrev pub TurnsNext : ℕ → WorkerIs → WorkerIs → Type 0
TurnsNext r w v = (v.journal ≡ w.journal)
    ⊎ ((more : List Entry) × (v.journal ≡ w.journal ++ Turned r ∷ more))

-- ---- the parts of a turn

-- the act was done
abbrev pub HasDone : SetupView → WorkerOf → Option Due → Act → WorkerIs → WorkerIs → Type 0
HasDone setup who None (Turn r) w v = ⊥
HasDone setup who (Some due) (Turn r) w v = HasTurned setup due w v
HasDone setup who due (Process place) w v = HasProcessed setup who place w v
HasDone setup who due Close w v = HasClosed w v
HasDone setup who due Nothing w v = ⊥

abbrev pub HasActed : SetupView → WorkerOf → Option Due → Act → Acted → WorkerIs → WorkerIs → Type 0
HasActed setup who due act Did w v = HasDone setup who due act w v
HasActed setup who due act Held w v = (v ≡ w) × IsHeld act w
HasActed setup who due act Starved w v = MemoryOnly w v
