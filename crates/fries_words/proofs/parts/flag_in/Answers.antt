use Rattle.std.proofs.Common.{◌∙◌, rules, sym}
use Rattle.fries_words.specs.Form.{is_flag}
use Rattle.fries_words.specs.Views.{flag_view}
use Rattle.fries_words.proofs.FormLemmas.{find_here, find_later, no_flag}
use Rattle.fries_words.proofs.parts.flag_in.Goals as goal

pub returns-then-eq : goal.returns-then-eq
returns-then-eq c = sym (find_here flag_view (is_flag c.args.word.now) c.args.flags.now c.loop-flag.flag-index no_flag c.loop-flag-test.true (search rules)) ∙ c.loop-flag.invariant

pub loop-flag-preserved : goal.loop-flag-preserved
loop-flag-preserved c = find_later flag_view (is_flag c.args.word.now) c.args.flags.now c.loop-flag.flag-index no_flag c.loop-flag-test.true (search rules) ∙ c.loop-flag.invariant
