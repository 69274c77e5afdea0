use Rattle.std.proofs.Common.{◌∙◌}
use Rattle.std.proofs.lemmas.Result.{err_from_is_err_and}
use Rattle.job_file.proofs.EntryLemmas.{tables_of-Err, tables_of-Ok, tables_of-end}
use Rattle.job_file.proofs.tables.read_tables.Goals as goal

pub returns-in_err-read_table-clause-fault : goal.returns-in_err-read_table-clause-fault
returns-in_err-read_table-clause-fault c =
    let p = err_from_is_err_and c.from_residual.result c.from_residual.ensures.1 in
    let first = rw c.in-Some.is at c.next.ensures.steps in
    rw (p.1, p.2) (λ other.
    c.loop-name.invariant.left ∙ tables_of-Err c.loop-name.list c.loop-name.name-iterator c.next.new.self c.in-Some.name.now c.in-Some.value.now c.as_str.result.now _ first c.as_str.ensures.value (c.in_err-read_table.ensures.fault other))

pub loop-name-preserved : goal.loop-name-preserved
loop-name-preserved c =
    let first = rw c.in-Some.is at c.next.ensures.steps in
    let step = tables_of-Ok c.loop-name.list c.loop-name.name-iterator c.next.new.self c.in-Some.name.now c.in-Some.value.now c.as_str.result.now _ first c.as_str.ensures.value c.in_ok-read_table.ensures.ok in
    record { can_next = tt; is_finite = tt; left = rw c.in_ok-push.ensures.ok (c.loop-name.invariant.left ∙ step) }

pub returns-clause-ok : goal.returns-clause-ok
returns-clause-ok c =
    let none = rw c.in-None.is at c.next.ensures.steps in
    c.loop-name.invariant.left ∙ tables_of-end c.loop-name.list c.loop-name.name-iterator none.0
