use Rattle.std.proofs.Common.{◌∙◌, sym}
use Rattle.job_file.specs.Wide.{wide_item}
use Rattle.job_file.proofs.WideLemmas.{first_found-None, first_found-Some, first_found-end}
use Rattle.job_file.proofs.wide.first_wide.Goals as goal

pub returns-in-Some : goal.returns-in-Some
returns-in-Some c = sym (c.loop-item.invariant ∙ first_found-Some wide_item c.args.items.now c.loop-item.item-index c.item-item.result _ c.loop-item-test.true c.item-item.is (sym c.in-Some.ensures))

pub loop-item-preserved : goal.loop-item-preserved
loop-item-preserved c =
    c.loop-item.invariant ∙ first_found-None wide_item c.args.items.now c.loop-item.item-index c.item-item.result c.loop-item-test.true c.item-item.is (sym c.wide_item.ensures ∙ c.in_default.is)

pub returns : goal.returns
returns c = sym (c.loop-item.invariant ∙ first_found-end wide_item c.args.items.now c.loop-item.item-index c.loop-item-test.false)
