use Rattle.std.proofs.Common.{◌≡◌, ◌∙◌, ◌+◌, ◌-◌, ◌++◌, List, ap, arith, drop, length}
use Rattle.versions.specs.declared.in_order.Judged.{Judged}
use Rattle.versions.specs.declared.request.Request.{Request}
use Rattle.stream_intake.specs.Intake.{judged_in}
use Rattle.stream_intake.proofs.IntakeLemmas.{accepted_more, known_counts, known_refused}
use Rattle.stream_intake.proofs.IntakeLemmas.{known_within, refused_more}
use Rattle.stream_intake.proofs.taken.judge_more.Goals as goal

pub overflow_add-accepted : goal.overflow_add-accepted
overflow_add-accepted c =
    omega (
      arith,
      c.request_count.ensures,
      c.len.ensures,
      known_within c.args.stream.now
          c.args.known.now.requests c.requires.known,
      c.requires.few,
    )

pub overflow_sub-refused : goal.overflow_sub-refused
overflow_sub-refused c =
    omega (
      arith,
      c.request_count.ensures,
      c.len.ensures,
      c.len-2.ensures,
      known_within
          c.args.stream.now c.args.known.now.requests c.requires.known,
    )

pub after-requires : goal.after-requires
after-requires c =
    let known : List Request = c.args.known.now.requests in
    let all_is : c.in_ok-all.all ≡ judged_in c.args.stream.now (known ++ c.args.more) =
    c.in_ok-all.ensures ∙ ap (judged_in c.args.stream.now) c.in_ok-extend.ensures in
    omega (
      arith,
      c.request_count.ensures,
      c.len.ensures,
      known_counts c.args.stream.now known
          c.requires.known,
      accepted_more c.later_requests_are_judged_later.ensures c.args.stream.now
          known c.args.more,
      ap (λ (j : Judged). length j.accepted) all_is,
    )

pub after-requires-2 : goal.after-requires-2
after-requires-2 c =
    let known : List Request = c.args.known.now.requests in
    let all_is : c.in_ok-all.all ≡ judged_in c.args.stream.now (known ++ c.args.more) =
    c.in_ok-all.ensures ∙ ap (judged_in c.args.stream.now) c.in_ok-extend.ensures in
    omega (
      arith,
      c.request_count.ensures,
      c.len.ensures,
      c.len-2.ensures,
      known_refused c.args.stream.now known c.requires.known,
      refused_more c.later_requests_are_judged_later.ensures c.args.stream.now known c.args.more,
      ap (λ (j : Judged). length j.refused) all_is,
    )

pub returns-clause-accepted : goal.returns-clause-accepted
returns-clause-accepted c =
    let known : List Request = c.args.known.now.requests in
    let all_is : c.in_ok-all.all ≡ judged_in c.args.stream.now (known ++ c.args.more) =
    c.in_ok-all.ensures ∙ ap (judged_in c.args.stream.now) c.in_ok-extend.ensures in
    let count_is : c.request_count.result + c.len.result
    ≡ length (judged_in c.args.stream.now known).accepted =
    omega (
      arith,
      c.request_count.ensures,
      c.len.ensures,
      known_counts c.args.stream.now known
          c.requires.known,
    ) in
    c.in_ok-after.ensures ∙ (ap (λ n. drop n c.in_ok-all.all.accepted) count_is ∙ ap
    (λ (j : Judged). drop (length (judged_in c.args.stream.now known).accepted) j.accepted)
    all_is)

pub returns-clause-refused : goal.returns-clause-refused
returns-clause-refused c =
    let known : List Request = c.args.known.now.requests in
    let all_is : c.in_ok-all.all ≡ judged_in c.args.stream.now (known ++ c.args.more) =
    c.in_ok-all.ensures ∙ ap (judged_in c.args.stream.now) c.in_ok-extend.ensures in
    let count_is : c.len-2.result - (c.request_count.result + c.len.result)
    ≡ length (judged_in c.args.stream.now known).refused =
    omega (
      arith,
      c.request_count.ensures,
      c.len.ensures,
      c.len-2.ensures,
      known_refused
          c.args.stream.now known c.requires.known,
    ) in
    c.in_ok-after-2.ensures ∙ (ap (λ n. drop n c.in_ok-all.all.refused) count_is ∙ ap
    (λ (j : Judged). drop (length (judged_in c.args.stream.now known).refused) j.refused)
    all_is)
