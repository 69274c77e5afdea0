use Rattle.std.proofs.Common.{◌≡◌, ◌<◌, ◌≤◌, List, take, arith, subst}
use Rattle.std.specs.Prelude.{All}
use Rattle.std.proofs.lemmas.List.{take_all}
use Rattle.std.proofs.lemmas.List.Elements.{All-more}
use Rattle.audit_fault.specs.Noting.{IsNoted}
use Rattle.versions.specs.declared.in_order.Refused.{Refused}
use Rattle.fries_lines.specs.Lines.{noted}
use Rattle.fries_lines.proofs.refused_lines.refused_are_noted.Goals as goal

pub loop-one-preserved : goal.loop-one-preserved
loop-one-preserved c =
    All-more (λ (r : Refused). IsNoted (noted r)) c.args.refused.now c.loop-one.one-index _
    (let t = c.loop-one-test.true in omega (arith, t)) c.loop-one.invariant
    c.note-noted.ensures.noted

pub returns : goal.returns
returns c =
    let all = c.args.refused.now in
    let whole : take c.loop-one.one-index all ≡ all =
    take_all c.loop-one.one-index all (let t = c.loop-one-test.false in omega (arith, t)) in
    subst (λ (l : List Refused). All (λ (r : Refused). IsNoted (noted r)) l) whole
    c.loop-one.invariant
