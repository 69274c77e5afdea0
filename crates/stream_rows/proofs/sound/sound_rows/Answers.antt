use Rattle.std.proofs.Common.{◌∙◌, arith}
use Rattle.std.proofs.lemmas.List.{length-append}
use Rattle.csv.specs.Records.{fields_of}
use Rattle.jobs.specs.Job.{job_view}
use Rattle.stream_rows.specs.declared.limits.TheConstants.{MAX_ROWS}
use Rattle.stream_rows.proofs.SoundLemmas.{sound_rows-end, sound_rows-fault, sound_rows-ok}
use Rattle.stream_rows.proofs.SoundLemmas.{stopped-few, stopped-whole}
use Rattle.stream_rows.proofs.sound.sound_rows.Goals as goal

pub returns-then-not-branch-clause-sound : goal.returns-then-not-branch-clause-sound
returns-then-not-branch-clause-sound c =
    let none = rw c.if-not-branch.true at c.in_ok-next.ensures in
    sound_rows-end (job_view c.args.job.now) c.loop-number.number c.loop-number.records
    c.loop-number.rows none ∙ c.loop-number.invariant.left

pub returns-in-Err-clause-sound : goal.returns-in-Err-clause-sound
returns-in-Err-clause-sound c =
    let first = rw c.if-not-branch.false at c.in_ok-next.ensures in
    stopped-whole c.stopped.result c.loop-number.rows c.in-Err.fault _
    (λ other. sound_rows-fault (job_view c.args.job.now) c.loop-number.number c.loop-number.records
    c.next.new.self (fields_of c.next.new.cells) c.loop-number.rows c.in-Err.fault first
    (c.in-Err.ensures.fault other) ∙ c.loop-number.invariant.left)
    c.stopped.ensures

pub returns-in-Err-clause-few : goal.returns-in-Err-clause-few
returns-in-Err-clause-few c =
    stopped-few c.stopped.result c.loop-number.rows c.in-Err.fault c.args.fed MAX_ROWS
    (omega (arith, c.loop-number.invariant.number, c.loop-number-test.true)) c.stopped.ensures

pub loop-number-preserved : goal.loop-number-preserved
loop-number-preserved c =
    let inv = c.loop-number.invariant in
    let first = rw c.if-not-branch.false at c.in_ok-next.ensures in
    let step =
    sound_rows-ok (job_view c.args.job.now) c.loop-number.number c.loop-number.records
    c.next.new.self (fields_of c.next.new.cells) c.loop-number.rows c.in-Ok.row first
    c.in-Ok.ensures.ok in
    rw c.in_ok-push-in-Ok.ensures.ok
    (record { number = simp length-append (omega (arith, inv.number)); left = step ∙ inv.left })
