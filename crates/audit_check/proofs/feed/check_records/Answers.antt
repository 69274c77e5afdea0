use Rattle.std.proofs.Common.{List, arith, subst}
use Rattle.csv.specs.Records.{fields_of}
use Rattle.jobs.specs.Job.{job_view}
use Rattle.sink_journal.specs.declared.journal.Feed.{Feed}
use Rattle.flow_model.proofs.WorkerLemmas.{item_at}
use Rattle.audit_laws.specs.Lines.{feeds_in}
use Rattle.audit_laws.specs.Verdict.{DifferFirst}
use Rattle.audit_check.proofs.FeedLemmas.{before_steps, none_past, one_line_more, other_step, step_as_wanted, step_missing, steps_done}
use Rattle.audit_check.proofs.feed.check_records.Goals as goal

pub returns-in_default-clause-fault : goal.returns-in_default-clause-fault
returns-in_default-clause-fault c begin rows wanted =
    let job = c.args.setup.now.job in
    let (lines, s, same) = c.requires in
    let k = c.loop-place.place in
    let at = c.loop-place.invariant lines s same in
    let w = item_at c.args.wanted.now k c.loop-place-test.true in
    let differ = step_missing (job_view job) job.lawful c.args.records.now lines s c.args.wanted.now k c.loop-place.records at (rw c.in_default.is at c.in_ok-found.ensures.none) w.0 w.1 in
    (lines, k, s, same, c.number_of.ensures, subst (λ (l : List Feed). DifferFirst (feeds_in lines) l k) wanted differ)

pub returns-then-not-is_at-clause-fault : goal.returns-then-not-is_at-clause-fault
returns-then-not-is_at-clause-fault c begin rows wanted =
    let job = c.args.setup.now.job in
    let (lines, s, same) = c.requires in
    let k = c.loop-place.place in
    let at = c.loop-place.invariant lines s same in
    let some = rw c.in-Some.is at c.in_ok-found.ensures.some in
    let differ = other_step (job_view job) job.lawful c.args.records.now lines s c.args.wanted.now k c.loop-place.records at c.next_step.new.records c.in-Some.found some.0 some.1
    (λ w. let yes = c.is_at.ensures.1 w in let no = c.if-not-is_at.true in absurd (cc)) in
    (lines, k, s, same, c.number_of-then-not-is_at.ensures, subst (λ (l : List Feed). DifferFirst (feeds_in lines) l k) wanted differ)

pub returns-in-Some-2-clause-fault : goal.returns-in-Some-2-clause-fault
returns-in-Some-2-clause-fault c begin rows wanted =
    let job = c.args.setup.now.job in
    let (lines, s, same) = c.requires in
    let k = c.loop-place.place in
    let at = c.loop-place.invariant lines s same in
    let some = rw c.in-Some-2.is at c.in_ok-next_step.ensures.some in
    let le = c.loop-place-test.false in
    let few = at.within in
    let number = c.number_of-in-Some-2.ensures in
    let differ = other_step (job_view job) job.lawful c.args.records.now lines s c.args.wanted.now k c.loop-place.records at c.next_step-2.new.records c.in-Some-2.field-0 some.0 some.1
    (none_past c.args.wanted.now k c.in-Some-2.field-0 le) in
    (lines, k, s, same, omega arith, subst (λ (l : List Feed). DifferFirst (feeds_in lines) l k) wanted differ)

pub returns-in-None-clause-ok : goal.returns-in-None-clause-ok
returns-in-None-clause-ok c lines s same =
    let job = c.args.setup.now.job in
    let at = c.loop-place.invariant lines s same in
    steps_done (job_view job) job.lawful c.args.records.now lines s c.args.wanted.now c.loop-place.place c.loop-place.records at (rw c.in-None.is at c.in_ok-next_step.ensures.none) c.loop-place-test.false

pub loop-place-preserved : goal.loop-place-preserved
loop-place-preserved c lines s same =
    let job = c.args.setup.now.job in
    let at = c.loop-place.invariant lines s same in
    let some = rw c.in-Some.is at c.in_ok-found.ensures.some in
    step_as_wanted (job_view job) job.lawful c.args.records.now lines s c.args.wanted.now c.loop-place.place c.loop-place.records at c.next_step.new.records c.in-Some.found some.0 some.1
    (c.is_at.ensures.0 c.if-not-is_at.false) c.loop-place-test.true

pub loop-preserved : goal.loop-preserved
loop-preserved c =
    let job = job_view c.args.setup.now.job in
    let first = rw c.if-not-branch-2.false at c.in_ok-next-2.ensures in
    let lt = c.loop-test.true in (
      λ lines s. one_line_more job lines (fields_of c.next-in-loop.new.cells) c.loop.records c.next-in-loop.new.self c.loop.counter (c.loop.invariant.0 lines s) first,
      omega arith,
    )

pub loop-place-init : goal.loop-place-init
loop-place-init c lines s same =
    let le = c.loop.invariant.1 in
    let ge = c.loop-test.false in
    before_steps (job_view c.args.setup.now.job) c.args.records.now lines c.args.refused.now c.args.wanted.now c.loop.records c.loop.counter s same (omega arith) (c.loop.invariant.0 lines s)
