-- The rule of a ring lane, which holds between any two of its steps, and what each step tells the
-- endpoint that takes it. The words are the numbers of items taken and sent, modulo twice the
-- number of slots. An item lies in the slot of its number modulo the number of slots.
use Rattle.std.specs.Prelude.{◌≡◌, ◌≢◌, ℕ, zero, suc, ◌+◌, ◌*◌, ◌%◌, ◌<◌, ◌≤◌}
use Rattle.std.specs.Prelude.{true, false, List, [], ◌∷◌, ◌++◌, length, Option, Some, None}
use mathlib.Core.Option.{some}
use lib.ListN.{get_elem?}
use Rattle.atomic_table.specs.Seated.{TableId}
use Rattle.atomic_table.specs.Table.{State, Me}
use Rattle.tuple_trace.specs.declared.tuple.Item.{Item}
use Rattle.lane_core.specs.Lane.{EndpointIs, LaneId, WasFull}
use Rattle.lane_core.specs.Steady.{IsSteady}
use Rattle.lane_ring.specs.declared.rule.Charter.{Charter}
use Rattle.lane_ring.specs.declared.rule.View.{View}

-- the views of the first seat, of the sender and the receiver that it is split into, of both
-- joined, and of what is left of the sender then
abbrev pub unparted : Charter → View
unparted k = record {
  puts = true;
  takes = true;
  sent = [];
  taken = [];
  capacity = k.capacity;
  origin = k.origin;
  full = 0;
  dry = 0;
  spare = 0;
  ahead = [];
}

abbrev pub sending : View → View
sending v = record v { puts = true; takes = false; taken = []; dry = 0; ahead = [] }

abbrev pub receiving : View → View
receiving v = record v { puts = false; takes = true; sent = []; full = 0; spare = 0 }

abbrev pub joined : View → View → View
joined receiver sender = record receiver {
  puts = true;
  sent = sender.sent;
  full = sender.full;
  spare = sender.spare;
}

abbrev pub spent : View
spent = record {
  puts = false;
  takes = false;
  sent = [];
  taken = [];
  capacity = 0;
  origin = record { graph = record { n = 0; child = [] }; from = 0 };
  full = 0;
  dry = 0;
  spare = 0;
  ahead = [];
}

-- the words of a ring: those of the items taken and sent, and fifteen between them that nobody uses
abbrev pub words_of : ℕ → ℕ → List ℕ
words_of taken sent = taken ∷ 0 ∷ 0 ∷ 0 ∷ 0 ∷ 0 ∷ 0 ∷ 0 ∷ 0 ∷ 0 ∷ 0 ∷ 0 ∷ 0 ∷ 0 ∷ 0 ∷ 0 ∷ sent ∷ []

-- the lane of a seat of this table
abbrev pub lane_of : TableId → View → LaneId
lane_of table v = record { table = table; capacity = v.capacity }

-- the endpoint of the lane with this number that has a seat of this table: it sends, or it takes
abbrev pub sending_end : ℕ → TableId → View → EndpointIs
sending_end number table v = record {
  lane = lane_of table v;
  number = number;
  origin = v.origin;
  items = v.sent;
  stalls = v.full;
}

abbrev pub receiving_end : ℕ → TableId → View → EndpointIs
receiving_end number table v = record {
  lane = lane_of table v;
  number = number;
  origin = v.origin;
  items = v.taken;
  stalls = v.dry;
}

-- a call of the endpoint found the lane full or empty: only the number of such calls rises, by one
abbrev pub HasStalledOnce : EndpointIs → EndpointIs → Type 0
HasStalledOnce before after = after ≡ record before { stalls = before.stalls + 1 }

-- the word at n items
abbrev pub word_at : ℕ → ℕ → ℕ
word_at capacity n = n % (2 * capacity)

abbrev pub Slots : Type 0
Slots = List (ℕ × Option Item)

-- the slot that is out with a sender that may fill so many, and with a receiver before which these
-- items lie
abbrev pub free_slot : ℕ → ℕ → Slots
free_slot slot zero = []
free_slot slot (suc more) = (slot, None) ∷ []

abbrev pub full_slot : ℕ → List Item → Slots
full_slot slot [] = []
full_slot slot (item ∷ more) = (slot, Some item) ∷ []

abbrev pub sender_slots : View → Slots
sender_slots v = free_slot (length v.sent % v.capacity) v.spare

abbrev pub receiver_slots : View → Slots
receiver_slots v = full_slot (length v.taken % v.capacity) v.ahead

-- what a seat that may put knows, and one that may take
pub record SenderKnows (k : Charter) (sender : ℕ) (sent : List Item) (spare seat : ℕ) (v : View)
    : Type 0 where
  pub alone : seat ≡ sender
  pub sent_is : v.sent ≡ sent
  pub spare_is : v.spare ≡ spare
  pub capacity_is : v.capacity ≡ k.capacity
  pub origin_is : v.origin ≡ k.origin

pub record ReceiverKnows (k : Charter) (receiver : ℕ) (taken ahead : List Item) (seat : ℕ)
    (v : View) : Type 0 where
  pub alone : seat ≡ receiver
  pub taken_is : v.taken ≡ taken
  pub ahead_is : v.ahead ≡ ahead
  pub capacity_is : v.capacity ≡ k.capacity
  pub origin_is : v.origin ≡ k.origin

-- the rule: what was sent is what was taken and then what lies in the slots from head to tail
pub record IsRing (k : Charter) (s : State (Option Item) View) : Type 0 where
  pub sender : ℕ
  pub receiver : ℕ
  pub sent : List Item
  pub taken : List Item
  -- what lies on the lane: what the receiver knows of, and what was sent since it looked
  pub ahead : List Item
  pub later : List Item
  -- how many slots the sender knows to be free; there may be more since it looked
  pub spare : ℕ
  pub some_capacity : 0 < k.capacity
  pub in_order : sent ≡ taken ++ (ahead ++ later)
  pub within : length sent + spare ≤ length taken + k.capacity
  pub steady : IsSteady k.origin sent
  pub words_are :
      s.words ≡ words_of (word_at k.capacity (length taken)) (word_at k.capacity (length sent))
  pub slots_are : length s.homes ≡ k.capacity
  -- the slots of the items, but for the one that is out with the receiver
  pub full_slots : (p : ℕ) → length taken ≤ p → p < length sent
      → (0 < length ahead → p ≢ length taken)
      → (x : Item) × (get_elem? sent p ≡ some x)
      × (get_elem? s.homes (p % k.capacity) ≡ some (some (Some x)))
  -- the other slots, but for the one that is out with the sender
  pub free_slots : (p : ℕ) → length sent ≤ p → p < length taken + k.capacity
      → (0 < spare → p ≢ length sent)
      → get_elem? s.homes (p % k.capacity) ≡ some (some None)
  pub senders : (seat : ℕ) (v : View) → get_elem? s.views seat ≡ some v → v.puts ≡ true
      → SenderKnows k sender sent spare seat v
  pub receivers : (seat : ℕ) (v : View) → get_elem? s.views seat ≡ some v → v.takes ≡ true
      → ReceiverKnows k receiver taken ahead seat v

abbrev Mine : Type 0
Mine = Me (Option Item) View

-- the sender, which knows of no free slot, loads the number of items taken: the lane is full, or
-- the next slot is out with it. No other step raises `full`.
pub record FoundFull (m r : Mine) : Type 0 where
  pub slots : r.1 ≡ m.1
  pub view : r.0 ≡ record m.0 { full = m.0.full + 1 }
  pub full : WasFull m.0.capacity m.0.sent

pub record FoundRoom (m : Mine) (limit : ℕ) (r : Mine) : Type 0 where
  pub spare : ℕ
  pub some_spare : 0 < spare
  pub few : spare ≤ m.0.capacity
  pub view : r.0 ≡ record m.0 { spare = spare }
  pub slots : r.1 ≡ sender_slots (record m.0 { spare = spare })
  pub limit_is : limit ≡ word_at m.0.capacity (length m.0.sent + spare)

abbrev pub LoadedTaken : Mine → ℕ → Mine → Type 0
LoadedTaken m n r =
    (n < 2 * m.0.capacity)
    × ((n + m.0.capacity) % (2 * m.0.capacity) ≡ word_at m.0.capacity (length m.0.sent)
    → FoundFull m r)
    × ((n + m.0.capacity) % (2 * m.0.capacity) ≢ word_at m.0.capacity (length m.0.sent)
    → FoundRoom m ((n + m.0.capacity) % (2 * m.0.capacity)) r)

-- the sender stores the number of items sent: the slot's turn ends, and that of the next begins if
-- it is known to be free
abbrev pub StoredSent : Mine → ℕ → Mine → Type 0
StoredSent m n r = (x : Item) (spare : ℕ) → m.0.spare ≡ suc spare
    → m.1 ≡ (length m.0.sent % m.0.capacity, Some x) ∷ []
    → (r.0 ≡ record m.0 { sent = m.0.sent ++ x ∷ []; spare = spare })
    × (r.1 ≡ sender_slots (record m.0 { sent = m.0.sent ++ x ∷ []; spare = spare }))

-- the sender gives back the slot that is out with it
abbrev pub GaveBack : Mine → ℕ → Mine → Type 0
GaveBack m n r = (r.0 ≡ record m.0 { spare = 0 }) × (r.1 ≡ [])

-- the receiver, which knows of no item, loads the number of items sent: the lane is empty, or the
-- next slot is out with it. No other step raises `dry`.
pub record FoundNone (m r : Mine) : Type 0 where
  pub slots : r.1 ≡ m.1
  pub view : r.0 ≡ record m.0 { dry = m.0.dry + 1 }
  pub all_taken : m.0.puts ≡ true → m.0.sent ≡ m.0.taken

pub record FoundItems (m : Mine) (n : ℕ) (r : Mine) : Type 0 where
  pub ahead : List Item
  pub some_ahead : 0 < length ahead
  pub few : length ahead ≤ m.0.capacity
  pub view : r.0 ≡ record m.0 { ahead = ahead }
  pub slots : r.1 ≡ receiver_slots (record m.0 { ahead = ahead })
  pub end_is : n ≡ word_at m.0.capacity (length m.0.taken + length ahead)

abbrev pub LoadedSent : Mine → ℕ → Mine → Type 0
LoadedSent m n r =
    (n ≡ word_at m.0.capacity (length m.0.taken) → FoundNone m r)
    × (n ≢ word_at m.0.capacity (length m.0.taken) → FoundItems m n r)

-- the receiver stores the number of items taken: the slot's turn ends, and that of the next begins
-- if an item is known to lie there
pub record TookOne (m : Mine) (item : Item) (more : List Item) (r : Mine) : Type 0 where
  pub view : r.0 ≡ record m.0 { taken = m.0.taken ++ item ∷ []; ahead = more }
  pub slots : r.1 ≡ receiver_slots (record m.0 { taken = m.0.taken ++ item ∷ []; ahead = more })
  pub steady : IsSteady m.0.origin (m.0.taken ++ item ∷ [])
  pub was_sent : m.0.puts ≡ true → length m.0.taken < length m.0.sent

abbrev pub StoredTaken : Mine → ℕ → Mine → Type 0
StoredTaken m n r =
    (item : Item) (more : List Item) → m.0.ahead ≡ item ∷ more → TookOne m item more r
