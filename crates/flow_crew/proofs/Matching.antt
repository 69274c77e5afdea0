-- Endpoints match by their lanes and numbers, whatever items went by them.
use Rattle.std.proofs.Common.{◌≡◌, ◌∙◌, ℕ, List, refl, sym, ap, map, Option, Some, None, slice_get}
use Rattle.lane_core.specs.Lane.{EndIs, EndpointIs, LaneId, end_of}
use Rattle.flow_worker.specs.Endpoints.{LaneInIs, LaneOutIs}
use Rattle.flow_worker.specs.Parts.{endpoint_in, endpoint_out}
use Rattle.flow_worker.specs.Worker.{WorkerIs}
use Rattle.flow_model.proofs.PlaceLemmas.{map_place}
use Rattle.sink_journal.proofs.SmallLemmas.{get_mapped}
use Rattle.flow_crew.specs.Sides.{AreMatched, ins_at, IsAmong, lane_ids, outs_at, side_ins, side_outs, SideIs, worker_side}
use Rattle.flow_crew.proofs.Ending.{in_lane, out_lane}

-- an item of a list with the same view as another list: the other has one with its view at its place
seen : {A B : Type 0} (f : A → B) (xs ys : List A) (k : ℕ) (y : A) → map f ys ≡ map f xs → slice_get ys k ≡ Some y → (x : A) × (slice_get xs k ≡ Some x) × (f y ≡ f x)
seen f xs ys k y e g = map_place f xs k (f y) (ap (λ l. slice_get l k) (sym e) ∙ get_mapped f ys k y g)

-- the endpoint is among these, but for its items
record IsSeen (ends : List EndpointIs) (end : EndpointIs) : Type 0 where
  was : EndpointIs
  among : IsAmong ends was
  lane : end.lane ≡ was.lane
  number : end.number ≡ was.number

module _ (workers later : List WorkerIs) (outs left : List EndpointIs) (same : map lane_ids later ≡ map lane_ids workers) (ends : map end_of left ≡ map end_of outs) where
  -- the worker with the same number, before
  worker_seen : (w k : ℕ) (x : EndpointIs) (o : Option SideIs) → slice_get (map worker_side later) w ≡ o → slice_get (side_ins o) k ≡ Some x → (v : WorkerIs) × (slice_get later w ≡ Some v)
  worker_seen w k x None e g = absurd (cc)
  worker_seen w k x (Some side) e g = let (v, at, f) = map_place worker_side later w side e in (v, at)

  sender_seen : (w k : ℕ) (x : EndpointIs) (o : Option SideIs) → slice_get (map worker_side later) w ≡ o → slice_get (side_outs o) k ≡ Some x → (v : WorkerIs) × (slice_get later w ≡ Some v)
  sender_seen w k x None e g = absurd (cc)
  sender_seen w k x (Some side) e g = let (v, at, f) = map_place worker_side later w side e in (v, at)

  rx_seen : (w : ℕ) (x : EndpointIs) → IsAmong (ins_at w (map worker_side later)) x → IsSeen (ins_at w (map worker_side workers)) x
  rx_seen w x (k, g) =
      let (v, at_v) = worker_seen w k x (slice_get (map worker_side later) w) refl g in
      let (u, at_u, f) = seen lane_ids workers later w v same at_v in
      let (j, a, at_a, e) = in_lane later w v x at_v (k, g) in
      let (b, at_b, h) = seen (λ (y : LaneInIs). (y.lane, y.number)) u.ins v.ins j a (ap (λ (p : List (LaneId × ℕ) × List (LaneId × ℕ)). p.0) f) at_a in
      record {
        was = endpoint_in b;
        among = (j, ap (λ (o : Option SideIs). slice_get (side_ins o) j) (get_mapped worker_side workers w u at_u) ∙ get_mapped endpoint_in u.ins j b at_b);
        lane = ap (λ (y : EndpointIs). y.lane) e ∙ ap (λ (p : LaneId × ℕ). p.0) h;
        number = ap (λ (y : EndpointIs). y.number) e ∙ ap (λ (p : LaneId × ℕ). p.1) h;
      }

  tx_seen : (sender : Option ℕ) (x : EndpointIs) → IsAmong (outs_at sender (map worker_side later) left) x → IsSeen (outs_at sender (map worker_side workers) outs) x
  tx_seen None x (k, g) =
      let (b, at_b, h) = seen end_of outs left k x ends g in
      record { was = b; among = (k, at_b); lane = ap (λ (y : EndIs). y.lane) h; number = ap (λ (y : EndIs). y.number) h }
  tx_seen (Some w) x (k, g) =
      let (v, at_v) = sender_seen w k x (slice_get (map worker_side later) w) refl g in
      let (u, at_u, f) = seen lane_ids workers later w v same at_v in
      let (j, a, at_a, e) = out_lane later left w v x at_v (k, g) in
      let (b, at_b, h) = seen (λ (y : LaneOutIs). (y.lane, y.number)) u.outs v.outs j a (ap (λ (p : List (LaneId × ℕ) × List (LaneId × ℕ)). p.1) f) at_a in
      record {
        was = endpoint_out b;
        among = (j, ap (λ (o : Option SideIs). slice_get (side_outs o) j) (get_mapped worker_side workers w u at_u) ∙ get_mapped endpoint_out u.outs j b at_b);
        lane = ap (λ (y : EndpointIs). y.lane) e ∙ ap (λ (p : LaneId × ℕ). p.0) h;
        number = ap (λ (y : EndpointIs). y.number) e ∙ ap (λ (p : LaneId × ℕ). p.1) h;
      }

  pub matched_again : AreMatched (map worker_side workers) outs → AreMatched (map worker_side later) left
  matched_again matched sender receiver tx rx a b number =
      let s = tx_seen sender tx a in
      let t = rx_seen receiver rx b in
      s.lane ∙ (matched sender receiver s.was t.was s.among t.among (sym s.number ∙ (number ∙ t.number)) ∙ sym t.lane)
