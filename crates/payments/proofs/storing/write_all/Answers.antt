use Rattle.std.proofs.Common.{◌++◌, take, ◌∙◌}
use Rattle.payments.proofs.FileLemmas.{append-take, option_map-append}
use Rattle.payments.proofs.storing.write_all.Goals as goal

pub loop-left-preserved : goal.loop-left-preserved
loop-left-preserved g c =
    let inv = c.loop-left.invariant in
    record {
      done = inv.done ++ take c.in_ok-taken.taken c.loop-left.left.now;
      text = append-take _ _ _ c.in_ok-taken.taken inv.text;
      written = c.in_ok-taken.ensures.more ∙ option_map-append _ _ _ _ inv.written;
      faults = c.in_ok-taken.ensures.cause ∙ inv.faults;
    }

pub returns-in_err-taken-clause-part : goal.returns-in_err-taken-clause-part
returns-in_err-taken-clause-part g c =
    let inv = c.loop-left.invariant in
    record { done = inv.done; left = c.loop-left.left.now; text_is = inv.text; holds = c.in_err-taken.ensures.err ∙ inv.written }
