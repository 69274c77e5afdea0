use Rattle.std.proofs.Common.{arith}
use Rattle.jobs.specs.Job.{job_view}
use Rattle.flow_model.proofs.WorkerLemmas.{item_at}
use Rattle.audit_check.proofs.RefusedLemmas.{none_past, other_refused, refused_as_wanted, refused_done, refused_missing}
use Rattle.audit_check.proofs.refused.check_records.Goals as goal

pub returns-in_default-clause-fault : goal.returns-in_default-clause-fault
returns-in_default-clause-fault c begin rows =
    let job = c.args.setup.now.job in
    let s = c.requires in
    let k = c.loop-place.place in
    let at = c.loop-place.invariant s.0 s.1 in
    let w = item_at c.args.refused.now k c.loop-place-test.true in (
      s.0,
      k,
      s.1,
      omega arith,
      refused_missing (job_view job) job.lawful c.args.records.now s.0 s.1 c.args.refused.now k c.loop-place.records at (rw c.in_default.is at c.in_ok-found.ensures.none) w.0 w.1,
    )

pub returns-then-not-is_at-clause-fault : goal.returns-then-not-is_at-clause-fault
returns-then-not-is_at-clause-fault c begin rows =
    let job = c.args.setup.now.job in
    let s = c.requires in
    let k = c.loop-place.place in
    let at = c.loop-place.invariant s.0 s.1 in
    let some = rw c.in-Some.is at c.in_ok-found.ensures.some in (
      s.0,
      k,
      s.1,
      omega arith,
      other_refused (job_view job) job.lawful c.args.records.now s.0 s.1 c.args.refused.now k c.loop-place.records at c.next_refused.new.records c.in-Some.found some.0 some.1
          (λ w. let yes = c.is_at.ensures.1 w in let no = c.if-not-is_at.true in absurd (cc)),
    )

pub returns-in-Some-2-clause-fault : goal.returns-in-Some-2-clause-fault
returns-in-Some-2-clause-fault c begin rows =
    let job = c.args.setup.now.job in
    let s = c.requires in
    let k = c.loop-place.place in
    let at = c.loop-place.invariant s.0 s.1 in
    let some = rw c.in-Some-2.is at c.in_ok-next_refused.ensures.some in
    let le = c.loop-place-test.false in
    let few = at.within in (
      s.0,
      k,
      s.1,
      omega arith,
      other_refused (job_view job) job.lawful c.args.records.now s.0 s.1 c.args.refused.now k c.loop-place.records at c.next_refused-2.new.records c.in-Some-2.field-0 some.0 some.1
          (none_past c.args.refused.now k c.in-Some-2.field-0 le),
    )

pub returns-in-None-clause-ok : goal.returns-in-None-clause-ok
returns-in-None-clause-ok c lines s =
    let job = c.args.setup.now.job in
    let at = c.loop-place.invariant lines s in
    refused_done (job_view job) job.lawful c.args.records.now lines s c.args.refused.now c.loop-place.place c.loop-place.records at (rw c.in-None.is at c.in_ok-next_refused.ensures.none) c.loop-place-test.false

pub loop-place-preserved : goal.loop-place-preserved
loop-place-preserved c lines s =
    let job = c.args.setup.now.job in
    let at = c.loop-place.invariant lines s in
    let some = rw c.in-Some.is at c.in_ok-found.ensures.some in
    let yes = c.if-not-is_at.false in
    refused_as_wanted (job_view job) job.lawful c.args.records.now lines s c.args.refused.now c.loop-place.place c.loop-place.records at c.next_refused.new.records c.in-Some.found some.0 some.1
    (c.is_at.ensures.0 yes) c.loop-place-test.true
