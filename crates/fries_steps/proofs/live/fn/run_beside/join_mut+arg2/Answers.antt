use Rattle.std.proofs.Common.{IfOk, rules, subst}
use Rattle.fries_steps.specs.declared.live.Work.{Work}
use Rattle.fries_steps.specs.inner.Beside.{IsFlownLive}
use Rattle.fries_steps.proofs.live.fn.run_beside.join_mut+arg2.Goals as goal

pub returns-in-Some : goal.returns-in-Some
returns-in-Some g c =
    let rows = c.captures.rows.now in
    let result = c.run_with.result in
    let taken = c.into_inner-setup.result in
    let inner : IfOk result (λ p. IsFlownLive taken.setup taken.inbox rows p.0.setup p.0.feeds p.0.crew.items p.1) = search rules in
    rw (← c.in-Some.ensures.value)
    (subst (λ (w : Work). IfOk result (λ p. IsFlownLive w.setup w.inbox rows p.0.setup p.0.feeds p.0.crew.items p.1)) c.into_inner-setup.ensures inner)
