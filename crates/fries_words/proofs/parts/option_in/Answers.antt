use Rattle.std.proofs.Common.{◌∙◌, rules, sym}
use Rattle.fries_words.specs.Form.{is_option}
use Rattle.fries_words.specs.Views.{option_view}
use Rattle.fries_words.proofs.FormLemmas.{find_here, find_later, no_option}
use Rattle.fries_words.proofs.parts.option_in.Goals as goal

pub returns-then-eq : goal.returns-then-eq
returns-then-eq c = sym (find_here option_view (is_option c.args.word.now) c.args.options.now c.loop-option.option-index no_option c.loop-option-test.true (search rules)) ∙ c.loop-option.invariant

pub loop-option-preserved : goal.loop-option-preserved
loop-option-preserved c = find_later option_view (is_option c.args.word.now) c.args.options.now c.loop-option.option-index no_option c.loop-option-test.true (search rules) ∙ c.loop-option.invariant
