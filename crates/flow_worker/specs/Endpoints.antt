-- What contracts see of a worker's lanes in and out.
use Rattle.std.specs.Prelude.{◌≡◌, ◌≢◌, ◌⊎◌, ℕ, ◌+◌, ◌≤◌, List, [], ◌∷◌, ◌++◌, Bool, length, nat_lt}
use Rattle.tuple_trace.specs.Counts.{Rose}
use Rattle.tuple_trace.specs.declared.tuple.Item.{Item}
use Rattle.lane_core.specs.Lane.{EndpointIs, LaneId}
use Rattle.lane_core.specs.Steady.{IsSteady}
use Rattle.lane_core.specs.declared.form.Origin.{Origin}
use Rattle.marker_align.specs.declared.held.Hand.{Hand}
use Rattle.marker_align.specs.declared.held.Hand.TheVariants.{Empty, Holds}
use Rattle.flow_worker.specs.Pairs.{sum_each}

-- A lane in: its receiving endpoint, its edge, and the item in hand.
pub record LaneInIs : Type 0 where
  pub lane : LaneId
  pub number : ℕ
  pub origin : Origin
  pub edge : ℕ
  pub taken : List Item
  pub dry : ℕ
  pub hand : Hand

-- A lane out: its sending endpoint, its edge, the items that wait for room, and the number of
-- waiting items for which it has memory.
pub record LaneOutIs : Type 0 where
  pub lane : LaneId
  pub number : ℕ
  pub origin : Origin
  pub edge : ℕ
  pub sent : List Item
  pub waiting : List Item
  pub full : ℕ
  pub memory : ℕ

-- the lane in with this endpoint, edge and hand
abbrev pub lane_in_of : EndpointIs → ℕ → Hand → LaneInIs
lane_in_of end edge hand = record {
  lane = end.lane;
  number = end.number;
  origin = end.origin;
  edge = edge;
  taken = end.items;
  dry = end.stalls;
  hand = hand;
}

-- the lane out with this endpoint and edge, on which these items wait, in this memory
abbrev pub lane_out_of : EndpointIs → ℕ → List Item → ℕ → LaneOutIs
lane_out_of end edge waiting memory = record {
  lane = end.lane;
  number = end.number;
  origin = end.origin;
  edge = edge;
  sent = end.items;
  waiting = waiting;
  full = end.stalls;
  memory = memory;
}

-- what the worker has sent and will send
abbrev pub planned : LaneOutIs → List Item
planned out = out.sent ++ out.waiting

-- what is in hand
abbrev pub in_hand : Hand → List Item
in_hand Empty = []
in_hand (Holds item) = item ∷ []

-- the endpoint of the same lane
abbrev pub SameIn : LaneInIs → LaneInIs → Type 0
SameIn a b = (b.lane ≡ a.lane) × (b.number ≡ a.number) × (b.origin ≡ a.origin) × (b.edge ≡ a.edge)

abbrev pub SameOut : LaneOutIs → LaneOutIs → Type 0
SameOut a b = (b.lane ≡ a.lane) × (b.number ≡ a.number) × (b.origin ≡ a.origin) × (b.edge ≡ a.edge)

-- an empty hand took what came
pub record Filled (a b : LaneInIs) : Type 0 where
  pub same : SameIn a b
  pub full_hand : a.hand ≢ Empty → b ≡ a
  pub kept : (before : List Item) → a.taken ≡ before ++ in_hand a.hand →
      b.taken ≡ before ++ in_hand b.hand
  pub steady : IsSteady a.origin a.taken → IsSteady b.origin b.taken
  pub grew : length a.taken ≤ length b.taken
  pub dry : b.hand ≡ Empty → Rose a.dry b.dry

-- what waits was put until the lane was full or nothing waited
pub record Flushed (a b : LaneOutIs) : Type 0 where
  pub same : SameOut a b
  pub planned_is : planned b ≡ planned a
  pub grew : length a.sent ≤ length b.sent
  pub full : (b.waiting ≡ []) ⊎ Rose a.full b.full

-- what was taken is steady; what was and will be sent is
abbrev pub IsSteadyIn : LaneInIs → Type 0
IsSteadyIn a = IsSteady a.origin a.taken

abbrev pub IsSteadyOut : LaneOutIs → Type 0
IsSteadyOut out = IsSteady out.origin (planned out)

-- how many items were taken from all lanes; how many were sent on all
abbrev pub all_taken : List LaneInIs → ℕ
all_taken ins = sum_each (λ (a : LaneInIs). length a.taken) ins

abbrev pub sent_in_all : List LaneOutIs → ℕ
sent_in_all outs = sum_each (λ (out : LaneOutIs). length out.sent) outs

-- only the memory of the lane may differ
abbrev pub SameButMemory : LaneOutIs → LaneOutIs → Type 0
SameButMemory a b = b ≡ record a { memory = b.memory }

abbrev pub Reserved : ℕ → LaneOutIs → LaneOutIs → Type 0
Reserved more a b = (b ≡ record a { memory = b.memory }) × (length b.waiting + more ≤ b.memory)

-- there is memory for this many further waiting items
abbrev pub HasRoomFor : ℕ → LaneOutIs → Type 0
HasRoomFor more out = length out.waiting + more ≤ out.memory

-- these items wait behind the earlier ones
abbrev pub Appended : (LaneOutIs → List Item) → LaneOutIs → LaneOutIs → Type 0
Appended items a b = b ≡ record a { waiting = a.waiting ++ items a }

-- these items wait behind the earlier ones, and the memory may differ
abbrev pub Gains : (LaneOutIs → List Item) → LaneOutIs → LaneOutIs → Type 0
Gains items a b = b ≡ record a { waiting = a.waiting ++ items a; memory = b.memory }

-- an item waits
abbrev pub is_waiting : LaneOutIs → Bool
is_waiting out = nat_lt 0 (length out.waiting)
