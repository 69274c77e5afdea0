use Rattle.std.proofs.Common.{◌∙◌, ◌<◌, ◌+◌, List, arith, length, refl, subst, sym}
use Rattle.jobs.specs.Job.{job_view}
use Rattle.tuple_trace.specs.declared.tuple.Item.{Item}
use Rattle.flow_model.specs.Lanes.{lanes}
use Rattle.flow_model.proofs.WorkerLemmas.{item_at}
use Rattle.audit_restore.proofs.FeedLemmas.{AreEnded, all_ended, one_ended, one_not_ended}
use Rattle.audit_restore.proofs.feed.end.Goals.{then-is_fed+in_ok-put, else-is_fed}
use Rattle.audit_restore.proofs.feed.end.Goals as goal

pub loop-number-preserved : goal.loop-number-preserved
loop-number-preserved c =
    let job = job_view c.args.setup.now.job in
    let old = c.args.standing.now in
    let mid = c.loop-number.standing in
    let n = c.loop-number.number in
    let lt : n < length (lanes job) = omega (arith, c.loop-number-test.true, c.len-number-end.ensures, c.requires) in
    let lane = item_at (lanes job) n lt in
    let inv = c.loop-number.invariant in
    let here : n < length mid = let long = inv.long in omega (arith, lt, long, c.requires) in
    elim c.if-is_fed.branch [
      | then-is_fed+in_ok-put w ↦
          subst (λ (s : List (List Item)). AreEnded job (n + 1) old s) (sym (w.standing-is ∙ w.in_ok-put.ensures))
          (one_ended job n old mid lane.0 inv here lane.1 ((w.if-is_fed.ensures lane.0 lane.1).0 refl))
      | else-is_fed w ↦
          subst (λ (s : List (List Item)). AreEnded job (n + 1) old s) (sym w.standing-is)
          (one_not_ended job n old mid lane.0 inv lane.1 (λ e. let f = (w.if-is_fed.ensures lane.0 lane.1).1 e in absurd (cc)))
    ]

pub returns : goal.returns
returns c =
    all_ended (job_view c.args.setup.now.job) c.loop-number.number c.args.standing.now c.loop-number.standing c.loop-number.invariant
    (omega (arith, c.loop-number-test.false, c.len-number-end.ensures, c.requires))
