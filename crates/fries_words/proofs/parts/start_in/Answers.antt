use Rattle.std.proofs.Common.{◌∙◌, rules, sym}
use Rattle.fries_words.specs.Form.{has_start}
use Rattle.fries_words.specs.Views.{option_view}
use Rattle.fries_words.proofs.FormLemmas.{find_here, find_later, no_option}
use Rattle.fries_words.proofs.parts.start_in.Goals as goal

pub returns-then-has_start-clause-is : goal.returns-then-has_start-clause-is
returns-then-has_start-clause-is c = sym (find_here option_view (has_start c.args.word.now) c.args.options.now c.loop-option.option-index no_option c.loop-option-test.true (search rules)) ∙ c.loop-option.invariant

pub loop-option-preserved : goal.loop-option-preserved
loop-option-preserved c = find_later option_view (has_start c.args.word.now) c.args.options.now c.loop-option.option-index no_option c.loop-option-test.true (search rules) ∙ c.loop-option.invariant
