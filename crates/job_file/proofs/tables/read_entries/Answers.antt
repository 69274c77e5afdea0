use Rattle.std.proofs.Common.{◌∙◌}
use Rattle.std.proofs.lemmas.Result.{err_from_is_err_and}
use Rattle.job_file.proofs.EntryLemmas.{entries_onto-Err, entries_onto-Ok, entries_onto-end}
use Rattle.job_file.proofs.tables.read_entries.Goals as goal

pub returns-in_err-value-clause-fault : goal.returns-in_err-value-clause-fault
returns-in_err-value-clause-fault c =
    let p = err_from_is_err_and c.from_residual.result c.from_residual.ensures.1 in
    let first = rw c.in-Some.is at c.next.ensures.steps in
    rw (p.1, p.2) (λ other. c.loop-key.invariant.left ∙ entries_onto-Err c.loop-key.entries c.loop-key.key-iterator c.next.new.self c.in-Some.key.now c.in-Some.value.now _ first (c.in_err-value.ensures.fault other))

pub loop-key-preserved : goal.loop-key-preserved
loop-key-preserved c =
    let first = rw c.in-Some.is at c.next.ensures.steps in
    let step = entries_onto-Ok c.loop-key.entries c.loop-key.key-iterator c.next.new.self c.in-Some.key.now c.in-Some.value.now c.as_bytes.result.now _ first c.as_bytes.ensures.value c.in_ok-value.ensures.ok in
    record { can_next = tt; is_finite = tt; left = rw c.in_ok-insert.ensures.ok (c.loop-key.invariant.left ∙ step) }

pub returns-clause-ok : goal.returns-clause-ok
returns-clause-ok c =
    let none = rw c.in-None.is at c.next.ensures.steps in
    c.loop-key.invariant.left ∙ entries_onto-end c.loop-key.entries c.loop-key.key-iterator none.0
