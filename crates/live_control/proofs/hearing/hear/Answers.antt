use Rattle.std.proofs.Common.{ap, arith, rules, ◌+◌, ◌∙◌}
use Rattle.live_control.proofs.HearLemmas.{hears_end, hears_enough, hears_failed, hears_more, hears_most, hears_none, taken_none, taken_some}
use Rattle.live_control.proofs.hearing.hear.Goals as goal
use Rattle.live_control.specs.Line.{TellerIs}

pub loop-taken-init : goal.loop-taken-init
loop-taken-init g c = record {
  hearing = hears_none c.args.most (g.Q.Asks.state c.args.asks.now);
  told = search rules;
}

pub returns-then-releases-most-clause-heard : goal.returns-then-releases-most-clause-heard
returns-then-releases-most-clause-heard g c = hears_enough _ _ _ _ _ _ c.loop-taken.invariant.hearing c.if-releases-most.true c.loop-taken.auto._taken-end c.outcome.ensures

pub tell_byte-releases-requires : goal.tell_byte-releases-requires
tell_byte-releases-requires g c =
    let told = ap (λ (t : TellerIs). t.told) c.loop-taken.invariant.told in omega (arith, told, c.if-releases-most.false, c.requires.most)

pub returns-in-Ok-None-clause-heard : goal.returns-in-Ok-None-clause-heard
returns-in-Ok-None-clause-heard g c =
    let next = taken_none c.in-Ok-None.field-0 _ _ c.in-Ok-None.field-0-is c.in-Ok-None.ensures.0 in
    hears_end _ _ _ _ _ _ _ c.loop-taken.invariant.hearing c.loop-taken.auto._taken-end next.0 next.1 c.in-Ok-None.ensures.1 c.outcome-in-Ok-None.ensures

pub returns-in-Err-clause-heard : goal.returns-in-Err-clause-heard
returns-in-Err-clause-heard g c =
    hears_failed _ _ _ _ _ _ _ c.loop-taken.invariant.hearing c.loop-taken.auto._taken-end c.in-Err.ensures.0 c.in-Err.ensures.1 c.outcome-in-Err.ensures

pub loop-taken-preserved : goal.loop-taken-preserved
loop-taken-preserved g c =
    let next = taken_some c.in-Ok-Some.field-0 c.in-Ok-Some.byte _ _ c.in-Ok-Some.field-0-is c.in-Ok-Some.ensures.0 in
    record {
      hearing = hears_more _ _ _ _ c.in-Ok-Some.byte _ _ _ c.loop-taken.invariant.hearing c.if-releases-most.false next c.in-Ok-Some.ensures.1 (ap (λ n. c.loop-taken.releases + n) c.tell_byte-releases.ensures.count);
      told = c.tell_byte-releases.ensures.told ∙ ap (λ (t : TellerIs). record t { told = t.told + c.tell_byte-releases.result }) c.loop-taken.invariant.told;
    }

pub returns-clause-heard : goal.returns-clause-heard
returns-clause-heard g c = hears_most _ _ _ _ _ _ c.loop-taken.invariant.hearing (omega (arith, c.loop-taken.auto._taken-end, c.loop-taken-test.false)) c.outcome-2.ensures
