use Rattle.std.proofs.Common.{◌∙◌, sym}
use Rattle.job_file.specs.RequestSizes.{wide_change}
use Rattle.job_file.proofs.WideLemmas.{first_found-None, first_found-Some, first_found-end}
use Rattle.job_file.proofs.request_sizes.first_wide_change.Goals as goal

pub returns-in-Some : goal.returns-in-Some
returns-in-Some c = sym (c.loop-item.invariant ∙ first_found-Some wide_change c.args.items.now c.loop-item.item-index c.item-item.result _ c.loop-item-test.true c.item-item.is (sym c.in-Some.ensures))

pub loop-item-preserved : goal.loop-item-preserved
loop-item-preserved c =
    c.loop-item.invariant ∙ first_found-None wide_change c.args.items.now c.loop-item.item-index c.item-item.result c.loop-item-test.true c.item-item.is (sym c.wide_change.ensures ∙ c.in_default.is)

pub returns : goal.returns
returns c = sym (c.loop-item.invariant ∙ first_found-end wide_change c.args.items.now c.loop-item.item-index c.loop-item-test.false)
