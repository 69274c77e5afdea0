use Rattle.std.proofs.Common.{◌≡◌, ◌∙◌, ◌+◌, ap, arith, length, subst, sym}
use Rattle.csv.specs.Records.{fields_of}
use Rattle.audit_stream.proofs.PlaceLemmas.{ArePlacedTo, lists_long, placed_all, placed_late, placed_none, placed_open, placed_skip, pushed_at}
use Rattle.audit_stream.proofs.places.sort_places.Goals as goal
use Rattle.audit_stream.proofs.places.sort_places.Goals.{then-number-stop+in_ok-push, then-number-stop-via-then-number-stop, then-number-stop-via-else-number-stop+then-not-closes, else-number-stop+else-not-closes}

pub loop-number-init : goal.loop-number-init
loop-number-init c = placed_none c.args.workers.now c.args.stop c.args.records.now c.args.lists.now c.requires.empty

pub returns-then-not-branch : goal.returns-then-not-branch
returns-then-not-branch c =
    let loop = c.loop-number in
    let none = rw c.if-not-branch.true at c.in_ok-next.ensures in
    placed_all c.args.workers.now c.args.stop c.args.records.now loop.number loop.lists
    (subst (λ left. ArePlacedTo c.args.workers.now c.args.stop c.args.records.now left loop.number loop.lists) none loop.invariant)

pub bounds-lists-group : goal.bounds-lists-group
bounds-lists-group c =
    let at = c.loop-number.invariant in
    let long : length c.loop-number.lists ≡ 3 + length c.args.workers.now = ap length at.lists_are ∙ lists_long c.args.workers.now c.args.stop at.above in
    omega (arith, long, c.group_of-group.ensures.within)

pub loop-number-preserved : goal.loop-number-preserved
loop-number-preserved c =
    let workers = c.args.workers.now in
    let stop = c.args.stop in
    let records = c.args.records.now in
    let loop = c.loop-number in
    let left = c.next.new.self in
    let x = fields_of c.next.new.cells in
    let new = c.if-number-stop.lists in
    let first = rw c.if-not-branch.false at c.in_ok-next.ensures in
    let at = subst (λ left. ArePlacedTo workers stop records left loop.number loop.lists) first loop.invariant in
    let long : length loop.lists ≡ 3 + length workers = ap length loop.invariant.lists_are ∙ lists_long workers stop loop.invariant.above in
    elim c.if-number-stop.branch [
      | then-number-stop+in_ok-push w ↦
          let g = w.group_of-group in
          let lt = g.ensures.within in
          let e = pushed_at loop.lists g.result w.index-lists-group.result (loop.number + 1) w.push.new.self new (omega (arith, long, lt)) w.lists-is w.in_ok-push.ensures.ok in
          elim w.then-number-stop.branch [
            | then-number-stop-via-then-number-stop v ↦
                placed_late workers stop records left x loop.number g.result loop.lists new at v.if-number-stop.true g.ensures.group lt e
            | then-number-stop-via-else-number-stop+then-not-closes v ↦
                placed_open workers stop records left x loop.number g.result loop.lists new at (sym v.closes.ensures ∙ v.if-not-closes.true) g.ensures.group lt e
          ]
      | else-number-stop+else-not-closes w ↦
          subst (ArePlacedTo workers stop records left (loop.number + 1)) (sym w.lists-is)
          (placed_skip workers stop records left x loop.number loop.lists at w.if-number-stop.false (sym w.closes.ensures ∙ w.if-not-closes.false))
    ]
