use Rattle.std.proofs.Common.{◌∙◌, []}
use Rattle.serial_order.proofs.LineLemmas.{counts-more, line-end}
use Rattle.serial_order.proofs.line.line_of.Goals as goal

pub loop-k-preserved : goal.loop-k-preserved
loop-k-preserved c =
    let serial = c.args.serial.now in
    let k = c.loop-k.k in
    rw (c.in_ok-push_count.ensures) (counts-more serial c.loop-k.line k c.args.requests c.loop-k-test.true ∙ c.loop-k.invariant)

pub returns : goal.returns
returns c =
    rw (c.in_ok-extend_from_slice.ensures.ok, c.in_ok-push_count-2.ensures)
    (line-end c.args.serial.now [] c.loop-k.line c.loop-k.k c.args.requests c.loop-k-test.false c.loop-k.invariant)
