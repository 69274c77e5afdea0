-- The law of a journal, place by place.
use Rattle.std.specs.Prelude.{◌≡◌, ⊤, ℕ, All, Contains, List, [], ◌∷◌, ◌++◌, Option, Some, None}
use Rattle.std.specs.List.{filter_map}
use Rattle.sink_journal.specs.declared.journal.Entry.{Entry}
use Rattle.sink_journal.specs.declared.journal.Entry.TheVariants as entry
use Rattle.tuple_trace.specs.declared.tuple.Tuple.{Tuple}
use Rattle.flow_model.specs.Law.{IsEnabled, IsInTime, Duties, initial, next_due, progress_after}

-- the request that an entry turns
abbrev pub turn_in : Entry → Option ℕ
turn_in (entry.Met lane tuple) = None
turn_in (entry.Marked lane request) = None
turn_in (entry.Turned request) = Some request
turn_in (entry.Ended lane) = None

-- the requests that a journal turns, in order
abbrev pub turned : List Entry → List ℕ
turned journal = filter_map turn_in journal

-- each entry may stand behind those before it
abbrev pub MayStandAtItsPlace : Duties → List Entry → Type 0
MayStandAtItsPlace duties journal =
    (before : List Entry) (entry : Entry) (later : List Entry) → journal ≡ before ++ entry ∷ later →
    IsEnabled duties (progress_after (initial duties) before) entry

-- the journal turns the first of these requests, each once, in their order and with none left out
abbrev pub TurnsFirst : List ℕ → List Entry → Type 0
TurnsFirst dues journal = (left : List ℕ) × (dues ≡ turned journal ++ left)

-- only entries that end other lanes than these, none twice
abbrev pub EndOtherLanes : List ℕ → List Entry → Type 0
EndOtherLanes seen [] = ⊤
EndOtherLanes seen (entry.Ended lane ∷ more) =
    ¬ Contains seen lane × EndOtherLanes (lane ∷ seen) more
EndOtherLanes seen (entry.Met lane tuple ∷ more) = ⊥
EndOtherLanes seen (entry.Marked lane request ∷ more) = ⊥
EndOtherLanes seen (entry.Turned request ∷ more) = ⊥

-- behind an end stand only ends, of other lanes, and before it every request was turned
abbrev pub EndEntriesStandLast : Duties → List Entry → Type 0
EndEntriesStandLast duties journal =
    (before : List Entry) (lane : ℕ) (later : List Entry)
    → journal ≡ before ++ entry.Ended lane ∷ later →
    EndOtherLanes (lane ∷ []) later × (duties.dues ≡ turned before)

-- at a head, a tuple that is met before the turn of the next request was fed before that was issued
abbrev pub HeadsAreInTime : Duties → List Entry → Type 0
HeadsAreInTime duties journal =
    (before : List Entry) (lane : ℕ) (tuple : Tuple) (later : List Entry)
    → journal ≡ before ++ entry.Met lane tuple ∷ later →
    (left : List ℕ) → duties.dues ≡ turned before ++ left → IsInTime duties tuple (next_due left)

-- the markers of a request, of these lanes, the last one first
abbrev pub markers : ℕ → List ℕ → List Entry
markers request [] = []
markers request (lane ∷ more) = markers request more ++ entry.Marked lane request ∷ []

-- directly before a turn stand its markers, one for each lane that brings it
abbrev pub TurnsFollowTheirMarkers : Duties → List Entry → Type 0
TurnsFollowTheirMarkers duties journal =
    (before : List Entry) (request : ℕ) (later : List Entry)
    → journal ≡ before ++ entry.Turned request ∷ later →
    (earlier : List Entry) × (lanes : List ℕ) × (before ≡ earlier ++ markers request lanes)
    × All (Contains lanes) (duties.marked_lanes request)

-- up to the turn of the request, only markers of it, on other lanes than these, none twice
abbrev pub LeadsToTurn : List ℕ → ℕ → List Entry → Type 0
LeadsToTurn seen request [] = ⊥
LeadsToTurn seen request (entry.Marked lane marked ∷ more) = (marked ≡ request)
    × ¬ Contains seen lane × LeadsToTurn (lane ∷ seen) request more
LeadsToTurn seen request (entry.Turned turned ∷ more) = turned ≡ request
LeadsToTurn seen request (entry.Met lane tuple ∷ more) = ⊥
LeadsToTurn seen request (entry.Ended lane ∷ more) = ⊥

-- a marker comes by a lane that brings it, and stands among those directly before the turn of its
-- request
abbrev pub MarkersLeadToTheirTurn : Duties → List Entry → Type 0
MarkersLeadToTheirTurn duties journal =
    (before : List Entry) (lane request : ℕ) (later : List Entry)
    → journal ≡ before ++ entry.Marked lane request ∷ later →
    Contains (duties.marked_lanes request) lane × LeadsToTurn (lane ∷ []) request later

-- tuples and ends come by the worker's lanes
abbrev pub TuplesComeByLanes : Duties → List Entry → Type 0
TuplesComeByLanes duties journal =
    (before : List Entry) (lane : ℕ) (tuple : Tuple) (later : List Entry)
    → journal ≡ before ++ entry.Met lane tuple ∷ later → Contains duties.lanes lane

abbrev pub EndEntriesComeByLanes : Duties → List Entry → Type 0
EndEntriesComeByLanes duties journal =
    (before : List Entry) (lane : ℕ) (later : List Entry)
    → journal ≡ before ++ entry.Ended lane ∷ later → Contains duties.lanes lane

-- The law once more, without progress. Every lane that an entry names is the worker's; requests are
-- turned in order; markers stand directly before their turn, one for each lane that brings it, and
-- nowhere else; heads are in time; the ends stand together at the end.
pub record HasPoints (duties : Duties) (journal : List Entry) : Type 0 where
  pub tuple_lanes : TuplesComeByLanes duties journal
  pub end_lanes : EndEntriesComeByLanes duties journal
  pub turns : TurnsFirst duties.dues journal
  pub markers_before : TurnsFollowTheirMarkers duties journal
  pub no_other_markers : MarkersLeadToTheirTurn duties journal
  pub heads : HeadsAreInTime duties journal
  pub ended_last : EndEntriesStandLast duties journal
