use Rattle.std.proofs.Common.{◌++◌, take, ◌∙◌}
use Rattle.payments.proofs.FileLemmas.{append-take}
use Rattle.payments.proofs.GrowingLemmas.{text_grown}
use Rattle.payments.proofs.growing.extend_all.Goals as goal

pub loop-left-preserved : goal.loop-left-preserved
loop-left-preserved g c =
    let inv = c.loop-left.invariant in
    let taken = c.in_ok-taken.ensures in
    record {
      done = inv.done ++ take c.in_ok-taken.taken c.loop-left.left.now;
      text = append-take _ _ _ c.in_ok-taken.taken inv.text;
      files = text_grown _ _ _ _ _ _ c.in_ok-taken.taken inv.files taken.more taken.count.0 taken.count.1;
      draft = taken.closed;
      faults = taken.cause ∙ inv.faults;
    }
