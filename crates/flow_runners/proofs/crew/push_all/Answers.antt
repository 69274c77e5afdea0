use Rattle.std.proofs.Common.{◌∙◌, ap, arith}
use Rattle.flow_runner.specs.declared.rule.Tally.{Tally}
use Rattle.flow_runners.proofs.Crewing.{agreed_last, as_runner, few_workers, law_last, named_last, numbers_last, pushed}
use Rattle.flow_runners.proofs.crew.push_all.Goals as goal

pub overflow_cast-number : goal.overflow_cast-number
overflow_cast-number g c =
    let was = c.loop-worker.invariant in
    let law = (law_last _ g.C.Charter.begin _ _ c.in-Some.worker c.in-Some.ensures.items was.law).1 in
    let few = few_workers c.args.setup.now g.C.Charter.begin c.in-Some.worker law in
    let last = (numbers_last _ _ c.in-Some.worker c.in-Some.ensures.items was.numbers).1 in
    omega (arith, few, last, c.len-number.ensures)

pub new-requires-clause-number : goal.new-requires-clause-number
new-requires-clause-number g c κs within =
    let last = (numbers_last _ _ c.in-Some.worker c.in-Some.ensures.items c.loop-worker.invariant.numbers).1 in
    omega (arith, last, c.len-number.ensures)

pub new-requires-clause-law : goal.new-requires-clause-law
new-requires-clause-law g c κs within = (law_last _ g.C.Charter.begin _ _ c.in-Some.worker c.in-Some.ensures.items c.loop-worker.invariant.law).1

pub give-requires-clause-has : goal.give-requires-clause-has
give-requires-clause-has g c κs within =
    let last = (numbers_last _ _ c.in-Some.worker c.in-Some.ensures.items c.loop-worker.invariant.numbers).1 in
    named_last g.C.Charter.endpoints _ _ c.in-Some.worker c.in_ok-runner.runner _ c.in-Some.ensures.items
    (as_runner c.in_ok-runner.runner c.in-Some.worker c.len-number.result c.in_ok-runner.ensures (omega (arith, last, c.len-number.ensures))) c.loop-worker.invariant.listed

pub give-requires-clause-charter : goal.give-requires-clause-charter
give-requires-clause-charter g c κs within =
    let last = (numbers_last _ _ c.in-Some.worker c.in-Some.ensures.items c.loop-worker.invariant.numbers).1 in
    agreed_last g.C.Charter.endpoints _ _ c.in-Some.worker c.in_ok-runner.runner _ c.in-Some.ensures.items
    (as_runner c.in_ok-runner.runner c.in-Some.worker c.len-number.result c.in_ok-runner.ensures (omega (arith, last, c.len-number.ensures))) c.loop-worker.invariant.listed

pub loop-worker-preserved : goal.loop-worker-preserved
loop-worker-preserved g c =
    let was = c.loop-worker.invariant in
    let rest = numbers_last _ _ c.in-Some.worker c.in-Some.ensures.items was.numbers in
    let last = rest.1 in
    let gave = c.in-Ok.ensures.ok in record {
      queue = c.give.ensures.queue;
      parts = ap (λ (t : Tally). t.parts) gave ∙ was.parts;
      listed = pushed g.C.Charter.endpoints _ _ c.in-Some.worker c.in_ok-runner.runner _ _ c.in-Some.ensures.items (as_runner c.in_ok-runner.runner c.in-Some.worker c.len-number.result c.in_ok-runner.ensures (omega (arith, last, c.len-number.ensures))) (ap (λ (t : Tally). t.list) gave) was.listed;
      numbers = rest.0;
      law = (law_last _ g.C.Charter.begin _ _ c.in-Some.worker c.in-Some.ensures.items was.law).0;
    }
