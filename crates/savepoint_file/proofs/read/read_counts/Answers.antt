use Rattle.std.proofs.Common.{◌∙◌, Err, ap, sym}
use Rattle.std.proofs.lemmas.Result.{err_from_is_err_and}
use Rattle.csv.specs.Records.{fields_of}
use Rattle.flow_model.specs.Setup.{setup_view}
use Rattle.savepoint_file.proofs.ReadLemmas.{read-end, read-fault, read-more}
use Rattle.savepoint_file.proofs.read.read_counts.Goals as goal

pub returns-then-not-branch-clause-ok : goal.returns-then-not-branch-clause-ok
returns-then-not-branch-clause-ok c =
    let none = rw c.if-not-branch.true at c.in_ok-next.ensures in
    sym c.loop-number.invariant ∙ read-end (setup_view c.args.setup.now).job c.loop-number.number c.loop-number.counts c.loop-number.records none

pub returns-in_err-count_in-clause-fault : goal.returns-in_err-count_in-clause-fault
returns-in_err-count_in-clause-fault c =
    let p = err_from_is_err_and c.from_residual-in_err-count_in.result c.from_residual-in_err-count_in.ensures.1 in
    let first = rw c.if-not-branch.false at c.in_ok-next.ensures in
    rw (p.1, p.2) (λ other.
    let f = c.in_err-count_in.ensures.fault other in
    sym c.loop-number.invariant
    ∙ (read-fault (setup_view c.args.setup.now).job c.loop-number.number c.loop-number.counts (fields_of c.next.new.cells) c.loop-number.records c.next.new.self first f.0 ∙ ap Err (sym f.1)))

pub loop-number-preserved : goal.loop-number-preserved
loop-number-preserved c =
    let first = rw c.if-not-branch.false at c.in_ok-next.ensures in
    rw c.in_ok-push.ensures.ok
    (read-more (setup_view c.args.setup.now).job c.loop-number.number c.loop-number.counts c.in_ok-count_in.field-0 (fields_of c.next.new.cells) c.loop-number.records c.next.new.self first c.in_ok-count_in.ensures.ok
    ∙ c.loop-number.invariant)
