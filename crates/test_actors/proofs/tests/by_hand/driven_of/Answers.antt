use Rattle.std.proofs.Common.{◌≡◌}
use Rattle.control_box.specs.Endpoints.{PosterIs}
use Rattle.flow_crew.proofs.Sorting.{each_placed}
use Rattle.test_actors.proofs.tests.by_hand.driven_of.Goals as goal

pub controls_of-requires : goal.controls_of-requires
controls_of-requires g c =
    each_placed (λ (p : PosterIs). p.posted ≡ 0) c.in_ok-workers.field-0.posters.items (λ k p at. (c.in_ok-workers.ensures.posters.1 k p at).0)
