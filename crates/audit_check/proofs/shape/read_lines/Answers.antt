use Rattle.std.proofs.Common.{◌<◌, ◌≤◌, ◌+◌, ◌∷◌, List, inr, length, refl, subst, sym}
use Rattle.csv.specs.Records.{fields_of}
use Rattle.jobs.specs.Job.{job_view}
use Rattle.sink_journal.specs.Audit.{audit_header}
use Rattle.flow_model.specs.Workers.{workers_in}
use Rattle.audit_laws.specs.declared.audit.Line.{Line}
use Rattle.audit_check.specs.Reading.{AreRead}
use Rattle.audit_check.specs.Telling.{Tells}
use Rattle.audit_check.proofs.ReadingLemmas.{begun, begun_above, no_such_line, one_more, one_more_above, out_of_order}
use Rattle.audit_check.proofs.TellingLemmas.{within_line}
use Rattle.audit_check.proofs.shape.read_lines.Goals as goal

pub loop-number-init : goal.loop-number-init
loop-number-init c =
    let job = job_view c.args.setup.now.job in
    let left = c.args.records.now in (
      begun job (audit_header ∷ left) audit_header left refl refl,
      subst (λ (above : List Line). Tells (length (workers_in job)) above c.args.told.now) (sym (begun_above job (audit_header ∷ left) audit_header left refl refl)) c.requires,
    )

pub returns-in_default-clause-fault : goal.returns-in_default-clause-fault
returns-in_default-clause-fault c begin refused rows =
    let job = job_view c.args.setup.now.job in
    let records = audit_header ∷ c.args.records.now in
    let n = c.loop-number.number in
    let first = rw c.if-not-branch.false at c.in_ok-next.ensures in
    let read = subst (λ r. AreRead job records r n c.loop-number.group) first c.loop-number.invariant.0 in
    inr (no_such_line job records (fields_of c.next.new.cells) c.next.new.self n c.loop-number.group read (rw c.in_default.is at c.in_ok-line.ensures.none))

pub returns-then-next-group-clause-fault : goal.returns-then-next-group-clause-fault
returns-then-next-group-clause-fault c begin refused rows =
    let job = job_view c.args.setup.now.job in
    let records = audit_header ∷ c.args.records.now in
    let n = c.loop-number.number in
    let first = rw c.if-not-branch.false at c.in_ok-next.ensures in
    let read = subst (λ r. AreRead job records r n c.loop-number.group) first c.loop-number.invariant.0 in
    let some = rw c.in-Some.is at c.in_ok-line.ensures.some in
    let lt = subst (λ g. g < c.loop-number.group) c.group_of-next.ensures c.if-next-group.true in
    inr (out_of_order job records (fields_of c.next.new.cells) c.next.new.self n c.loop-number.group read c.args.setup.now.job.lawful c.in-Some.line some.0 some.1 lt)

pub add-requires-clause-journals : goal.add-requires-clause-journals
add-requires-clause-journals c =
    let some = rw c.in-Some.is at c.in_ok-line.ensures.some in
    within_line (job_view c.args.setup.now.job) _ c.in-Some.line some.0 c.loop-number.invariant.1.journals_long

pub add-requires-clause-states : goal.add-requires-clause-states
add-requires-clause-states c =
    let some = rw c.in-Some.is at c.in_ok-line.ensures.some in
    within_line (job_view c.args.setup.now.job) _ c.in-Some.line some.0 c.loop-number.invariant.1.states_long

pub loop-number-preserved : goal.loop-number-preserved
loop-number-preserved c =
    let job = job_view c.args.setup.now.job in
    let records = audit_header ∷ c.args.records.now in
    let many = length (workers_in job) in
    let n = c.loop-number.number in
    let first = rw c.if-not-branch.false at c.in_ok-next.ensures in
    let both = subst (λ r. (read : AreRead job records r n c.loop-number.group) × Tells many read.above c.loop-number.told) first c.loop-number.invariant in
    let some = rw c.in-Some.is at c.in_ok-line.ensures.some in
    let le = subst (λ g. c.loop-number.group ≤ g) c.group_of-next.ensures c.if-next-group.false in
    subst (λ g. (read : AreRead job records c.next.new.self (n + 1) g) × Tells many read.above c.add.new.self) (sym c.group_of-next.ensures) (
      one_more job records (fields_of c.next.new.cells) c.next.new.self n c.loop-number.group both.0 c.in-Some.line some.0 some.1 le,
      subst (λ (above : List Line). Tells many above c.add.new.self)
          (sym (one_more_above job records (fields_of c.next.new.cells) c.next.new.self n c.loop-number.group both.0 c.in-Some.line some.0 some.1 le))
          (c.in_ok-add.ensures many both.0.above both.1),
    )
