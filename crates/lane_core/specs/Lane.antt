-- Words of the lanes' contracts.
use Rattle.std.specs.Prelude.{◌≡◌, ℕ, List, [], ◌∷◌, ◌++◌, length}
use Rattle.atomic_table.specs.Seated.{TableId}
use Rattle.tuple_trace.specs.Counts.{Rose}
use Rattle.tuple_trace.specs.declared.tuple.Item.{Item}
use Rattle.lane_core.specs.declared.form.Origin.{Origin}

-- Which lane it is: the table on which both its endpoints step, which no other lane has, and how
-- many items it holds at most.
pub record LaneId : Type 0 where
  pub table : TableId
  pub capacity : ℕ

-- What contracts see of an endpoint of a lane.
pub record EndpointIs : Type 0 where
  -- which lane it is, the number that it was made with, and where it begins
  pub lane : LaneId
  pub number : ℕ
  pub origin : Origin
  -- the items that went by the endpoint, in order: a sending one sent them, a receiving one took
  -- them
  pub items : List Item
  -- how many of its calls found the lane full or empty; at 2^64 - 1 the number stays
  pub stalls : ℕ

-- one more item went by the endpoint
abbrev pub after_item : Item → EndpointIs → EndpointIs
after_item item end = record end { items = end.items ++ item ∷ [] }

-- a call of the endpoint found the lane full or empty, and only the number of such calls changed
abbrev pub HasStalled : EndpointIs → EndpointIs → Type 0
HasStalled before after =
    (after ≡ record before { stalls = after.stalls }) × Rose before.stalls after.stalls

-- What no call changes of an endpoint.
pub record EndIs : Type 0 where
  pub lane : LaneId
  pub number : ℕ
  pub origin : Origin

abbrev pub end_of : EndpointIs → EndIs
end_of end = record { lane = end.lane; number = end.number; origin = end.origin }

-- what was sent ends in these items
abbrev pub LayLast : List Item → List Item → Type 0
LayLast sent lying = (taken : List Item) × (sent ≡ taken ++ lying)

-- What was sent ends in as many items as the lane holds, as it must if the lane was full. These may
-- be taken by now: the sender knows only what it sent.
abbrev pub WasFull : ℕ → List Item → Type 0
WasFull capacity sent = (lying : List Item) × (length lying ≡ capacity) × LayLast sent lying
