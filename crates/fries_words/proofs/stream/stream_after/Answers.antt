use Rattle.std.proofs.Common.{◌∙◌, refl, sym}
use Rattle.std.proofs.lemmas.Bool.{false≢true}
use Rattle.std.proofs.lemmas.Result.{IfErr-weaker, IfOk-weaker}
use Rattle.clap.specs.Words.{found_of, subcommand_rows_of}
use Rattle.fries_words.specs.Apps.{program_app}
use Rattle.fries_words.specs.Views.{form_view}
use Rattle.fries_words.specs.declared.topic.Topic.TheVariants as topic
use Rattle.fries_words.proofs.TopicLemmas.{stream_words}
use Rattle.fries_words.proofs.TopicTakes.{enters_named, takes_words}
use Rattle.fries_words.proofs.stream.stream_after.Goals as goal

pub matches_of-requires : goal.matches_of-requires
matches_of-requires c =
    takes_words topic.Stream c.args.words.now
    (form_view c.form_of.result) c.requires.some c.requires.command c.form_of.ensures
    (sym c.in_ok-has_form.ensures ∙ c.if-not-branch.false)

pub unreachable-requires : goal.unreachable-requires
unreachable-requires c =
    let named =
    enters_named topic.Stream c.args.words.now c.in-Ok.matches c.requires.some
    c.requires.command c.in-Ok.ensures.matches in
    false≢true (c.in-None.ensures.found.1 named)

pub returns-clause-asked : goal.returns-clause-asked
returns-clause-asked c =
    let is = stream_words c.args.words.now (form_view c.form_of.result) program_app
    (found_of c.in-Some.values.now) (subcommand_rows_of c.in-Ok.matches)
    c.requires.some c.requires.command c.form_of.ensures
    (sym c.in_ok-has_form.ensures ∙ c.if-not-branch.false)
    refl c.in-Ok.ensures.matches c.in-Some.ensures.rows in
    IfOk-weaker c.stream_with.result _ _
    (λ command asked. sym is ∙ asked) c.stream_with.ensures.asked

pub returns-clause-usage : goal.returns-clause-usage
returns-clause-usage c =
    let is = stream_words c.args.words.now (form_view c.form_of.result) program_app
    (found_of c.in-Some.values.now) (subcommand_rows_of c.in-Ok.matches)
    c.requires.some c.requires.command c.form_of.ensures
    (sym c.in_ok-has_form.ensures ∙ c.if-not-branch.false)
    refl c.in-Ok.ensures.matches c.in-Some.ensures.rows in
    IfErr-weaker c.stream_with.result _ _
    (λ fault usage other. sym is ∙ usage other) c.stream_with.ensures.usage
