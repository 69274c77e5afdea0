-- The rule of a queue lane, which holds between any two of its steps, and what each step makes of a
-- pass's view.
use Rattle.std.specs.Prelude.{◌≡◌, ℕ, ◌≤◌, true, false, List, [], ◌∷◌, ◌++◌, length}
use mathlib.Core.Option.{some}
use lib.ListN.{get_elem?}
use Rattle.tuple_trace.specs.declared.tuple.Item.{Item}
use Rattle.lane_core.specs.declared.form.Origin.{Origin}
use Rattle.lane_core.specs.declared.queue.rule.View.{View}
use Rattle.lane_core.specs.Steady.{IsSteady}

-- the origin of a lane that has none yet
abbrev pub nowhere : Origin
nowhere = record { graph = record { n = 0; child = [] }; from = 0 }

-- the view of the first pass, before the lane's ends are parted
abbrev pub unparted : View
unparted = record {
  puts = true;
  takes = true;
  sent = [];
  taken = [];
  capacity = 0;
  origin = nowhere;
}

-- the view of a pass that puts, and of one that takes
abbrev pub sending : List Item → ℕ → Origin → View
sending sent capacity origin = record {
  puts = true;
  takes = false;
  sent = sent;
  taken = [];
  capacity = capacity;
  origin = origin;
}

abbrev pub receiving : List Item → ℕ → Origin → View
receiving taken capacity origin = record {
  puts = false;
  takes = true;
  sent = [];
  taken = taken;
  capacity = capacity;
  origin = origin;
}

-- the view of a receiver that has taken in the sender's pass, and what is left of that
abbrev pub joined : View → View → View
joined receiver sender = record receiver { puts = true; sent = sender.sent }

abbrev pub spent : View
spent = record {
  puts = false;
  takes = false;
  sent = [];
  taken = [];
  capacity = 0;
  origin = nowhere;
}

-- one more item was put, or taken
abbrev pub after_put : View → Item → View
after_put v item = record v { sent = v.sent ++ item ∷ [] }

abbrev pub after_take : View → Item → View
after_take v item = record v { taken = v.taken ++ item ∷ [] }

-- what a pass that may put knows: it is the only one, what was sent, and what is fixed of the lane
pub record SenderKnows (sender : ℕ) (sent : List Item) (capacity : ℕ) (origin : Origin) (pass : ℕ)
    (v : View) : Type 0 where
  pub alone : pass ≡ sender
  pub sent_is : v.sent ≡ sent
  pub capacity_is : v.capacity ≡ capacity
  pub origin_is : v.origin ≡ origin

-- what a pass that may take knows
pub record ReceiverKnows (receiver : ℕ) (taken : List Item) (capacity : ℕ) (origin : Origin)
    (pass : ℕ) (v : View) : Type 0 where
  pub alone : pass ≡ receiver
  pub taken_is : v.taken ≡ taken
  pub capacity_is : v.capacity ≡ capacity
  pub origin_is : v.origin ≡ origin

-- the rule: what was sent is what was taken and then what lies on the lane, which has room for it,
-- and all of it is steady
pub record IsLane (items : List Item) (views : List View) : Type 0 where
  pub sender : ℕ
  pub receiver : ℕ
  pub sent : List Item
  pub taken : List Item
  pub capacity : ℕ
  pub origin : Origin
  pub in_order : sent ≡ taken ++ items
  pub within : length items ≤ capacity
  pub steady : IsSteady origin sent
  pub senders :
      (pass : ℕ) (v : View) → get_elem? views pass ≡ some v → v.puts ≡ true →
      SenderKnows sender sent capacity origin pass v
  pub receivers :
      (pass : ℕ) (v : View) → get_elem? views pass ≡ some v → v.takes ≡ true →
      ReceiverKnows receiver taken capacity origin pass v

-- what lies on a lane, as a pass that may put and take knows it
abbrev pub HasLeft : View → List Item → Type 0
HasLeft v items = v.sent ≡ v.taken ++ items
