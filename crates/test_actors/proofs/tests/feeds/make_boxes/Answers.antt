use Rattle.std.proofs.Common.{◌≡◌, ◌∙◌, ◌+◌, ◌++◌, ◌∷◌, [], List, ap, arith, length, length-append}
use Rattle.control_box.specs.Endpoints.{PosterIs}
use Rattle.flow_crew.proofs.Crewing.{placed_more}
use Rattle.test_actors.proofs.tests.feeds.make_boxes.Goals as goal

pub loop-worker-preserved : goal.loop-worker-preserved
loop-worker-preserved c =
    let ps = c.loop-worker.posters.items in
    let p = c.in_ok-poster.poster in
    let qs = c.push.new.self.items in
    let pushed : qs ≡ ps ++ p ∷ [] = c.in_ok-push.ensures.items in
    let long : length qs ≡ length ps + 1 = ap (λ (xs : List PosterIs). length xs) pushed ∙ length-append ps (p ∷ []) in
    record {
      many = omega (arith, long, c.loop-worker.invariant.many);
      unused = placed_more (λ w (p : PosterIs). (p.posted ≡ 0) × (p.loads ≡ [])) ps qs p pushed c.loop-worker.invariant.unused c.in_ok-poster.ensures.poster;
    }
