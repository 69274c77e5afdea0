use Rattle.std.proofs.Common.{◌≡◌, ◌∙◌, ◌++◌, ◌∷◌, List, [], ap, rules, sym}
use Rattle.std.proofs.lemmas.List.{append_assoc}
use Rattle.flow_model.specs.Setup.{setup_view}
use Rattle.audit_parts.specs.Reading.{parts_left}
use Rattle.stream_replay.specs.InParts.{Records}
use Rattle.stream_replay.specs.inner.Progress.{body_of, given_of}
use Rattle.stream_replay.proofs.ListLemmas.{last_of}
use Rattle.stream_replay.proofs.LoopLemmas.{all_at_end, at_first, at_next, counted_next}
use Rattle.stream_replay.proofs.LoopLemmas.{err_among, ok_all}
use Rattle.stream_replay.proofs.PassLemmas.{loose_among}
use Rattle.stream_replay.proofs.check.pass_all.Goals as goal

pub parts-init : goal.parts-init
parts-init c =
    at_first c.args.whole.now (given_of c.args.whole.now (setup_view c.args.progress.setup))
    c.args.progress c.args.first (parts_left c.args.parts) c.requires.progress c.requires.counted

pub parts-preserved : goal.parts-preserved
parts-preserved c =
    let whole = c.args.whole.now in
    let given = given_of whole (setup_view c.args.progress.setup) in
    let was = c.parts.invariant in
    let next = counted_next c.in-Some.next (parts_left c.parts.parts) (parts_left c.next_part.new.self)
    (rw c.in-Some.is at c.in_ok-next.ensures.part) in
    at_next whole given (body_of c.args.first ∷ parts_left c.args.parts) c.args.progress.setup.job
    c.parts.progress c.in_ok-progress.progress c.parts.part c.in-Some.next
    (parts_left c.parts.parts) (parts_left c.next_part.new.self) c.parts.number was next.1
    (c.in_ok-progress.ensures.passed given was.done was.passed) next.0
    c.in_ok-progress.ensures.job

pub returns-in_default-clause-parts : goal.returns-in_default-clause-parts
returns-in_default-clause-parts c =
    let given = given_of c.args.whole.now (setup_view c.args.progress.setup) in
    let all : List Records = body_of c.args.first ∷ parts_left c.args.parts in
    let was = c.parts.invariant in
    let here = body_of c.parts.part in
    let none = rw c.in_default.is at c.in_ok-next.ensures.none in
    ok_all c.end_at.result given all was.done here
    (all_at_end all was.done (parts_left c.parts.parts) here was.all_are none.0)
    (c.end_at.ensures.parts given was.done was.passed)

pub returns-in_default-clause-loose : goal.returns-in_default-clause-loose
returns-in_default-clause-loose c =
    let given = given_of c.args.whole.now (setup_view c.args.progress.setup) in
    let all : List Records = body_of c.args.first ∷ parts_left c.args.parts in
    let was = c.parts.invariant in
    let here = body_of c.parts.part in
    let none = rw c.in_default.is at c.in_ok-next.ensures.none in
    err_among c.end_at.result given all was.done here
    (all_at_end all was.done (parts_left c.parts.parts) here was.all_are none.0)
    (c.end_at.ensures.loose given was.done was.passed was.number_is)

pub returns-in_err-progress-clause-loose : goal.returns-in_err-progress-clause-loose
returns-in_err-progress-clause-loose c =
    let given = given_of c.args.whole.now (setup_view c.args.progress.setup) in
    let all : List Records = body_of c.args.first ∷ parts_left c.args.parts in
    let was = c.parts.invariant in
    let here = body_of c.parts.part in
    let next = counted_next c.in-Some.next (parts_left c.parts.parts) (parts_left c.next_part.new.self)
    (rw c.in-Some.is at c.in_ok-next.ensures.part) in
    let rest = last_of (body_of c.in-Some.next) (parts_left c.next_part.new.self) in
    let same : all ≡ (was.done ++ here ∷ rest.front) ++ rest.end ∷ [] =
    was.all_are
    ∙ (ap (λ l. was.done ++ here ∷ l) (next.1 ∙ rest.all_are)
    ∙ sym (append_assoc was.done (here ∷ rest.front) (rest.end ∷ []))) in
    let loose =
    loose_among given all (was.done ++ here ∷ rest.front) rest.end c.in_err-progress.field-0.0 same
    (c.in_err-progress.ensures.loose given was.done rest.front rest.end was.passed was.number_is) in
    search (rules, loose)
