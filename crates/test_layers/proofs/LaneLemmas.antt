-- Whatever a call of an endpoint does, the endpoint stays that of its lane.
use Rattle.std.proofs.Common.{◌≡◌, Option, Some, None, ap}
use Rattle.std.specs.Prelude.{Err, IfErr, IfNone, IfSome, Ok, OnOk, Result}
use Rattle.tuple_trace.specs.declared.tuple.Item.{Item}
use Rattle.lane_core.specs.Lane.{EndpointIs, HasStalled, after_item}

pub put-lane : {A : Type 0} (r : Result A Item) (item : Item) (old new : EndpointIs) → OnOk r (new ≡ after_item item old) → IfErr r (λ back. (back ≡ item) × HasStalled old new) → new.lane ≡ old.lane
put-lane (Ok x) item old new put refused = ap (λ (e : EndpointIs). e.lane) put
put-lane (Err back) item old new put refused = ap (λ (e : EndpointIs). e.lane) refused.1.0

pub take-lane : (r : Option Item) (old new : EndpointIs) → IfSome r (λ item. new ≡ after_item item old) → IfNone r (HasStalled old new) → new.lane ≡ old.lane
take-lane (Some item) old new taken none = ap (λ (e : EndpointIs). e.lane) taken
take-lane None old new taken none = ap (λ (e : EndpointIs). e.lane) none.0
