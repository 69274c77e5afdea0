use Rattle.std.proofs.Common.{refl}
use Rattle.std.proofs.lemmas.Option.{IfSome_then}
use Rattle.fries_words.specs.Words.{asked_of}
use Rattle.payments.specs.World.{world}
use Rattle.fries_call.proofs.AnswerLemmas.{follows, none_then}
use Rattle.fries_call.proofs.top.fries.Goals as goal

pub returns-clause-usage : goal.returns-clause-usage
returns-clause-usage g c =
    none_then (asked_of c.args.words.now) _ _ c.answer_words-answer.ensures.usage (λ stops. record {
      between = world (g.S.Shelf.state c.answer_words-answer.new.shelf) (g.O.Sink.state c.answer_words-answer.new.out);
      ends = stops;
      prints = record { shelf = refl; line = c.report.ensures };
    })

pub returns-clause-answers : goal.returns-clause-answers
returns-clause-answers g c =
    IfSome_then (asked_of c.args.words.now) c.answer_words-answer.ensures.ends (λ asked ends. record {
      between = world (g.S.Shelf.state c.answer_words-answer.new.shelf) (g.O.Sink.state c.answer_words-answer.new.out);
      ends = ends;
      prints = record { shelf = refl; line = c.report.ensures };
    })

pub returns-clause-file : goal.returns-clause-file
returns-clause-file g c =
    let shelf = g.S.Shelf.state c.answer_words-answer.new.shelf in
    let old = world (g.S.Shelf.state c.args.shelf.now) (g.O.Sink.state c.args.out.now) in
    let between = world shelf (g.O.Sink.state c.answer_words-answer.new.out) in
    let new = world shelf (g.O.Sink.state c.report.new.out) in
    IfSome_then (asked_of c.args.words.now) c.answer_words-answer.ensures.ends (λ asked ends.
    follows c.faulty_is_no_job.ensures c.files_have_one_fault.ensures asked (g.Q.Asks.state c.args.asks.now) (g.Q.Asks.state c.answer_words-answer.new.asks) old between new c.answer_words-answer.result ends
    (record { shelf = refl; line = c.report.ensures }))
