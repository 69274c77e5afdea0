use Rattle.std.proofs.Common.{◌≡◌, ◌++◌, ◌∷◌, [], ◌<◌, ◌^◌, ◌-◌, ◌*◌, rules, arith}
use Rattle.jobs.specs.Job.{job_view}
use Rattle.versions.proofs.AcceptedLemmas.{free-anywhere}
use Rattle.versions.proofs.JudgedLemmas.{judged_on-accepted, judged_on-refused}
use Rattle.versions.proofs.YoungLemmas.{CanAccept-fault_of, IsYoung-accepted}
use Rattle.versions.proofs.in_order.next.Goals as goal

pub accept-requires : goal.accept-requires
accept-requires c =
    let room : c.args.place * 64 < 2 ^ 64 - 1 = omega (arith, c.requires.place) in
    CanAccept-fault_of (job_view c.args.job.now) c.args.bench.now.book c.args.request.now c.args.bench.now.last_after (c.args.place * 64) c.requires.young room
    (free-anywhere c.args.bench.now.splits c.args.bench.now.book (job_view c.args.job.now) c.args.request.now c.args.bench.now.last_after c.in-Ok.ensures.ok)

pub returns-in_ok-push-in-Ok-clause-young : goal.returns-in_ok-push-in-Ok-clause-young
returns-in_ok-push-in-Ok-clause-young c =
    let after = IsYoung-accepted (job_view c.args.job.now) c.args.bench.now.book c.args.request.now.changes (c.args.place * 64) c.requires.young in
    rw c.in_ok-book-in-Ok.ensures record { long = after.long; below = λ n current is. omega (arith, after.below n current is, c.requires.few) }

pub returns-in_ok-push-in-Ok-clause-judged : goal.returns-in_ok-push-in-Ok-clause-judged
returns-in_ok-push-in-Ok-clause-judged c rest =
    let items : c.push.new.self ≡ c.args.bench.now.accepted ++ c.args.request.now ∷ [] = search rules in
    rw (items, c.in_ok-book-in-Ok.ensures, c.in_ok-request-in-Ok.ensures) (judged_on-accepted (job_view c.args.job.now) c.args.bench.now c.args.place c.args.request.now rest c.in-Ok.ensures.ok)

pub returns-in_ok-push-in-Err-clause-judged : goal.returns-in_ok-push-in-Err-clause-judged
returns-in_ok-push-in-Err-clause-judged c rest =
    let items : c.push-in-Err.new.self ≡ c.args.bench.now.refused ++ (record { place = c.args.place; fault = c.in-Err.fault }) ∷ [] = search rules in
    rw items (judged_on-refused (job_view c.args.job.now) c.args.bench.now c.args.place c.args.request.now rest c.in-Err.fault c.in-Err.ensures.err)
