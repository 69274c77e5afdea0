use Rattle.std.proofs.Common.{◌∙◌, subst, sym, true}
use Rattle.flow_model.specs.Setup.{setup_view}
use Rattle.coordinator.specs.Feeding.{IsFeeder}
use Rattle.coordinator.specs.Live.{Hears}
use Rattle.coordinator.specs.Turning.{IsFeederTurn}
use Rattle.live_control.specs.Kept.{IsKept, LiveIs}
use Rattle.live_control.proofs.live_feeder.LiveFeederFeeding.turn.Goals as goal

pub returns-clause-turn : goal.returns-clause-turn
returns-clause-turn g c =
    let hears = subst (λ n. Hears n c.released-released.result c.self.inside.inbox.loads c.released-released.new.inbox.loads) c.request_count.ensures c.released-released.ensures.hears in
    subst (λ (v : LiveIs). IsFeederTurn true (setup_view c.args.setup.now) c.args.rows.now c.live_turn.result v.feeder (record c.live_turn.new.self { loads = c.released-released.new.inbox.loads })) c.self.view_is
    (c.live_turn.ensures.turn c.self.inside.inbox.loads c.released-released.new.inbox.loads hears)

pub returns-clause-kept : goal.returns-clause-kept
returns-clause-kept g c = λ seed kept.
    let hears = subst (λ n. Hears n c.released-released.result c.self.inside.inbox.loads c.released-released.new.inbox.loads) c.request_count.ensures c.released-released.ensures.hears in
    let was = subst (λ (v : LiveIs). IsKept seed v.feeder.feeds v.inbox) (sym c.self.view_is) kept in
    let law = subst (λ (v : LiveIs). IsFeeder true (setup_view c.args.setup.now) c.requires.law.0 c.args.rows.now v.feeder) (sym c.self.view_is) c.requires.law.1 in (
      c.released-released.ensures.line ∙ was.0,
      c.live_turn.ensures.heard c.requires.law.0 c.self.inside.inbox.loads c.released-released.new.inbox.loads hears law was.1,
    )
