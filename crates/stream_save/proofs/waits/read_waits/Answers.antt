use Rattle.std.proofs.Common.{◌∙◌, sym}
use Rattle.csv.specs.Records.{fields_of}
use Rattle.stream_save.proofs.WaitLemmas.{rest-more, waits-fault, waits-missing, waits-more}
use Rattle.stream_save.proofs.waits.read_waits.Goals as goal

pub returns-then-not-branch-clause-fault : goal.returns-then-not-branch-clause-fault
returns-then-not-branch-clause-fault c other =
    let none = rw c.if-not-branch.true at c.in_ok-next.ensures in
    sym c.loop-done.invariant.waits ∙ waits-missing c.args.turned c.loop-done.done c.loop-done.waits c.loop-done.records c.loop-done-test.true none

pub returns-in_default-clause-fault : goal.returns-in_default-clause-fault
returns-in_default-clause-fault c other =
    let first = rw c.if-not-branch.false at c.in_ok-next.ensures in
    sym c.loop-done.invariant.waits
    ∙ waits-fault c.args.turned c.loop-done.done c.loop-done.waits (fields_of c.next.new.cells) c.loop-done.records c.next.new.self c.loop-done-test.true first (sym c.in_default.ensures)

pub loop-done-preserved : goal.loop-done-preserved
loop-done-preserved c =
    let first = rw c.if-not-branch.false at c.in_ok-next.ensures in
    record {
      waits =
          rw c.in_ok-push.ensures.ok
          (waits-more c.args.turned c.loop-done.done c.loop-done.waits c.in-Some.row (fields_of c.next.new.cells) c.loop-done.records c.next.new.self c.loop-done-test.true first (sym c.in-Some.ensures)
          ∙ c.loop-done.invariant.waits);
      rest = rest-more c.args.turned c.loop-done.done (fields_of c.next.new.cells) c.loop-done.records c.next.new.self c.loop-done-test.true first ∙ c.loop-done.invariant.rest;
    }
