-- The endpoints of the first lanes, as lane after lane is made or settled.
use Rattle.std.specs.Prelude.{◌≡◌, ◌==◌, ℕ, zero, suc, List, [], ◌∷◌, ◌++◌, Bool, length, map}
use Rattle.std.specs.Prelude.{filter, take, Option, Some, None, slice_get}
use Rattle.std.specs.List.{enumerate_from}
use Rattle.flow_dag.specs.declared.graph.Graph.{Graph}
use Rattle.jobs.specs.JobView.{JobView}
use Rattle.lane_core.specs.Lane.{EndpointIs, LaneId}
use Rattle.flow_model.specs.Lanes.{is_sender, lanes}
use Rattle.flow_model.specs.declared.topology.Lane.{Lane}
use Rattle.flow_model.specs.Workers.{workers_in}
use Rattle.flow_worker.specs.Pairs.{EachOne}
use Rattle.flow_model.specs.NewEndpoint.{IsNewEndpoint}
use Rattle.flow_crew.specs.Sides.{SideIs, feeder_sends, numbers_of}

-- the item at a place is changed
abbrev pub changed_at : {A : Type 0} → (A → A) → ℕ → List A → List A
changed_at f k [] = []
changed_at f zero (x ∷ xs) = f x ∷ xs
changed_at f (suc k) (x ∷ xs) = x ∷ changed_at f k xs

-- a side with further endpoints
abbrev pub more_in : List EndpointIs → SideIs → SideIs
more_in ends side = record { ins = side.ins ++ ends; outs = side.outs }

abbrev pub more_out : List EndpointIs → SideIs → SideIs
more_out ends side = record { ins = side.ins; outs = side.outs ++ ends }

-- further endpoints at the sender, if it is a worker, or else at the feeder
abbrev pub with_out : Option ℕ → List EndpointIs → List SideIs → List SideIs
with_out None ends sides = sides
with_out (Some worker) ends sides = changed_at (more_out ends) worker sides

abbrev pub with_fed : Option ℕ → List EndpointIs → List EndpointIs → List EndpointIs
with_fed None ends fed = fed ++ ends
with_fed (Some worker) ends fed = fed

-- the numbers of those of the first i lanes that pass a test
abbrev pub first_numbers : (Lane → Bool) → JobView → ℕ → List ℕ
first_numbers test job i =
    map (λ (p : ℕ × Lane). p.0)
    (filter (λ (p : ℕ × Lane). test p.1) (enumerate_from 0 (take i (lanes job))))

-- the endpoints of those of the first i lanes that pass a test, in the order of their numbers
pub record HasLanes (test : Lane → Bool) (job : JobView) (P : EndpointIs → Type 0) (i : ℕ)
    (ends : List EndpointIs) : Type 0 where
  pub numbers : numbers_of ends ≡ first_numbers test job i
  pub each : EachOne P ends

abbrev pub leads_to : ℕ → Lane → Bool
leads_to worker lane = lane.receiver == worker

abbrev pub leads_from : ℕ → Lane → Bool
leads_from worker lane = is_sender worker lane.sender

-- the senders of the first i lanes and the receivers of the first j lanes have their endpoints
pub record HaveFirstLanes (job : JobView) (P : Option ℕ → EndpointIs → Type 0)
    (Q : ℕ → EndpointIs → Type 0) (i j : ℕ) (sides : List SideIs) (fed : List EndpointIs)
    : Type 0 where
  pub many : length sides ≡ length (workers_in job)
  pub outs : (w : ℕ) (side : SideIs) → slice_get sides w ≡ Some side →
      HasLanes (leads_from w) job (P (Some w)) i side.outs
  pub ins : (w : ℕ) (side : SideIs) → slice_get sides w ≡ Some side →
      HasLanes (leads_to w) job (Q w) j side.ins
  pub feeder : HasLanes feeder_sends job (P None) i fed

-- each of these is a new endpoint of the lane with this number
abbrev pub AreNewAt : JobView → Graph → ℕ → List EndpointIs → Type 0
AreNewAt job graph number ends =
    EachOne (λ (end : EndpointIs). (end.number ≡ number) × IsNewEndpoint job graph end) ends

-- a new endpoint of the lane that the list has at its number
abbrev pub IsMarked : JobView → Graph → List LaneId → EndpointIs → Type 0
IsMarked job graph marks end =
    IsNewEndpoint job graph end × (slice_get marks end.number ≡ Some end.lane)

-- the new endpoints of the first i lanes, which are the lanes of this list
abbrev pub AreAllMarked : JobView → Graph → ℕ → List LaneId → List SideIs → List EndpointIs → Type 0
AreAllMarked job graph i marks sides fed =
    (length marks ≡ i)
    × HaveFirstLanes job (λ sender. IsMarked job graph marks)
    (λ worker. IsMarked job graph marks) i i
    sides fed
