use Rattle.std.proofs.Common.{◌++◌, ◌∷◌, ◌∙◌, [], ap, decimal, List, ℕ}
use Rattle.audit_stream.specs.Sorting.{SpelledWorker}
use Rattle.audit_stream.proofs.WorkerLemmas.{one_spelled}
use Rattle.audit_stream.proofs.workers.push_node.Goals as goal

pub loop-place-preserved : goal.loop-place-preserved
loop-place-preserved c =
    let loop = c.loop-place in
    let item = c.in_ok-of.ensures ∙ ap (λ (n : List ℕ). (n, decimal loop.place)) c.as_slice.ensures in
    one_spelled c.args.workers.now loop.workers c.push.new.self c.args.node.now.name loop.place loop.invariant
    (c.in_ok-push.ensures.ok ∙ ap (λ (w : SpelledWorker). loop.workers ++ w ∷ []) item)
