use Rattle.std.proofs.Common.{◌∙◌, ◌+◌, subst, sym}
use Rattle.csv.specs.Records.{fields_of}
use Rattle.audit_stream.proofs.ClosedLemmas.{AreReadTo, read_all, read_none, read_other, read_stop}
use Rattle.audit_stream.proofs.together.last_stop.Goals as goal
use Rattle.audit_stream.proofs.together.last_stop.Goals.{then-is_stop, else-is_stop}

pub loop-number-init : goal.loop-number-init
loop-number-init c = read_none c.args.records.now

pub returns-then-not-branch : goal.returns-then-not-branch
returns-then-not-branch c =
    let loop = c.loop-number in
    let none = rw c.if-not-branch.true at c.in_ok-next.ensures in
    read_all c.args.records.now loop.number loop.stop (subst (λ left. AreReadTo c.args.records.now left loop.number loop.stop) none loop.invariant)

pub loop-number-preserved : goal.loop-number-preserved
loop-number-preserved c =
    let loop = c.loop-number in
    let first = rw c.if-not-branch.false at c.in_ok-next.ensures in
    let read = subst (λ left. AreReadTo c.args.records.now left loop.number loop.stop) first loop.invariant in
    let x = fields_of c.next.new.cells in
    elim c.if-is_stop.branch [
      | then-is_stop w ↦
          subst (λ stop. AreReadTo c.args.records.now c.next.new.self (loop.number + 1) stop) (sym w.stop-is)
          (read_stop c.args.records.now c.next.new.self x loop.number loop.stop read (sym c.is_stop.ensures ∙ w.if-is_stop.true))
      | else-is_stop w ↦
          subst (λ stop. AreReadTo c.args.records.now c.next.new.self (loop.number + 1) stop) (sym w.stop-is)
          (read_other c.args.records.now c.next.new.self x loop.number loop.stop read (sym c.is_stop.ensures ∙ w.if-is_stop.false))
    ]
