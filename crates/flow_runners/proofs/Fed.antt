-- What a feeder is after no turn and after one more.
use Rattle.std.proofs.Common.{◌∙◌, Bool, List, refl}
use Rattle.sink_journal.specs.declared.journal.Feed.{Feed}
use Rattle.flow_model.specs.Begin.{Begin}
use Rattle.coordinator.specs.Turning.{IsFeederTurn}
use Rattle.coordinator.specs.Views.{FeederIs}
use Rattle.coordinator.specs.declared.feeding.FeedTurn.{FeedTurn}
use Rattle.flow_runners.specs.Crew.{HasFed, IsFeederOf, setup_in}
use Rattle.flow_runners.specs.declared.flow.Flow.{Flow}

module _ {Seed Rest : Type 0} (live : Bool) (flow : Flow) (begin : Begin) (kept : Seed → List Feed → Rest → Type 0) where
  pub fed_none : (f : FeederIs) (r : Rest) → IsFeederOf live flow begin f → HasFed live flow begin kept f r f r
  fed_none f r law = record { law = law; endpoints = refl; kept_is = λ seed k. k }

  pub fed_turn : (answer : FeedTurn) (f g h : FeederIs) (r s t : Rest) → HasFed live flow begin kept f r g s → IsFeederTurn live (setup_in flow) flow.rows.now answer g h
      → ((seed : Seed) → kept seed g.feeds s → kept seed h.feeds t) → HasFed live flow begin kept f r h t
  fed_turn answer f g h r s t was turn kept_on = record {
    law = turn.law begin was.law;
    endpoints = turn.endpoints ∙ was.endpoints;
    kept_is = λ seed k. kept_on seed (was.kept_is seed k);
  }

  -- some turns, and then some more
  pub fed_more : (f g h : FeederIs) (r s t : Rest) → HasFed live flow begin kept f r g s → HasFed live flow begin kept g s h t → HasFed live flow begin kept f r h t
  fed_more f g h r s t was more = record {
    law = more.law;
    endpoints = more.endpoints ∙ was.endpoints;
    kept_is = λ seed k. more.kept_is seed (was.kept_is seed k);
  }
