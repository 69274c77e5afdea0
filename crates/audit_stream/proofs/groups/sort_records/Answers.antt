use Rattle.std.proofs.Common.{◌∙◌, ◌+◌, ap, length, subst, sym}
use Rattle.csv.specs.Records.{fields_of}
use Rattle.audit_stream.specs.Sorting.{closed_from}
use Rattle.audit_stream.proofs.SortLemmas.{AreSortedTo, sorted_all, sorted_late, sorted_none, sorted_open, sorted_skip, texts_long}
use Rattle.audit_stream.proofs.groups.sort_records.Goals as goal
use Rattle.audit_stream.proofs.groups.sort_records.Goals.{then-number-stop+in_ok-near, then-number-stop-via-then-number-stop, then-number-stop-via-else-number-stop+then-not-closes, else-number-stop+else-not-closes}

pub loop-number-init : goal.loop-number-init
loop-number-init c = sorted_none c.args.workers.now c.args.stop c.args.records.now c.args.texts.now c.requires.empty

pub sort_record-requires-clause-long : goal.sort_record-requires-clause-long
sort_record-requires-clause-long c =
    let at = c.loop-number.invariant in
    ap length at.texts_are ∙ texts_long c.args.workers.now (closed_from c.args.stop at.above)

pub returns-then-not-branch : goal.returns-then-not-branch
returns-then-not-branch c =
    let loop = c.loop-number in
    let none = rw c.if-not-branch.true at c.in_ok-next.ensures in
    sorted_all c.args.workers.now c.args.stop c.args.records.now loop.number loop.texts
    (subst (λ left. AreSortedTo c.args.workers.now c.args.stop c.args.records.now left loop.number loop.texts) none loop.invariant)

pub loop-number-preserved : goal.loop-number-preserved
loop-number-preserved c =
    let workers = c.args.workers.now in
    let stop = c.args.stop in
    let records = c.args.records.now in
    let loop = c.loop-number in
    let left = c.next.new.self in
    let x = fields_of c.next.new.cells in
    let first = rw c.if-not-branch.false at c.in_ok-next.ensures in
    let at = subst (λ left. AreSortedTo workers stop records left loop.number loop.texts) first loop.invariant in
    elim c.if-number-stop.branch [
      | then-number-stop+in_ok-near w ↦
          subst (AreSortedTo workers stop records left (loop.number + 1)) (sym w.texts-is)
          (elim w.then-number-stop.branch [
            | then-number-stop-via-then-number-stop v ↦
                sorted_late workers stop records left x loop.number loop.texts w.sort_record.new.texts at v.if-number-stop.true w.in_ok-near.ensures
            | then-number-stop-via-else-number-stop+then-not-closes v ↦
                sorted_open workers stop records left x loop.number loop.texts w.sort_record.new.texts at (sym v.closes.ensures ∙ v.if-not-closes.true) w.in_ok-near.ensures
          ])
      | else-number-stop+else-not-closes w ↦
          subst (AreSortedTo workers stop records left (loop.number + 1)) (sym w.texts-is)
          (sorted_skip workers stop records left x loop.number loop.texts at w.if-number-stop.false (sym w.closes.ensures ∙ w.if-not-closes.false))
    ]
