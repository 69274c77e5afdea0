use Rattle.std.proofs.Common.{List}
use Rattle.versions.specs.declared.request.Request.{Request}
use Rattle.stream_intake.specs.Intake.{judged_in}
use Rattle.stream_intake.proofs.IntakeLemmas.{added_accepted, added_known, added_within}
use Rattle.stream_intake.proofs.taken.learn.Goals as goal

pub add-requires-clause-accepted : goal.add-requires-clause-accepted
add-requires-clause-accepted c =
    let known : List Request = c.args.known.now.requests in (
      (judged_in c.args.stream known).accepted,
      c.requires.known,
      added_accepted c.later_requests_are_judged_later.ensures
          c.accepted_requests_stay_accepted.ensures c.args.stream known c.args.more
          c.in_ok-accepted.field-0.accepted c.in_ok-accepted.ensures.accepted,
    )

pub add-requires-clause-splits : goal.add-requires-clause-splits
add-requires-clause-splits c =
    added_within c.later_requests_are_judged_later.ensures c.accepted_requests_split_within.ensures
    c.args.stream c.args.known.now.requests c.args.more c.in_ok-accepted.field-0.accepted
    c.in_ok-accepted.ensures.accepted

pub returns-clause-is_known : goal.returns-clause-is_known
returns-clause-is_known c =
    let known : List Request = c.args.known.now.requests in
    let later : List Request = c.in_ok-accepted.field-0.accepted in
    let law = c.later_requests_are_judged_later.ensures in
    let is = c.in_ok-accepted.ensures.accepted in
    let added =
    added_accepted law c.accepted_requests_stay_accepted.ensures c.args.stream known c.args.more
    later is in
    added_known law c.args.stream c.in_ok-stream.stream known c.args.more later is
    c.in_ok-stream.ensures.setup
    (c.in_ok-stream.ensures.asked (judged_in c.args.stream known).accepted c.requires.known added)
