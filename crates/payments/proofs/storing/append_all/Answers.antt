use Rattle.std.proofs.Common.{◌++◌, take, ◌∙◌}
use Rattle.payments.proofs.FileLemmas.{append-take, draft_longer, draft_named, draft_open}
use Rattle.payments.proofs.storing.append_all.Goals as goal

pub loop-rest-preserved : goal.loop-rest-preserved
loop-rest-preserved g c =
    let inv = c.loop-rest.invariant in
    let more = c.in_ok-taken.ensures.more in
    let piece = take c.in_ok-taken.taken c.loop-rest.rest.now in
    record {
      done = inv.done ++ piece;
      text = append-take _ _ _ c.in_ok-taken.taken inv.text;
      there = draft_open _ _ piece inv.there more;
      draft = λ name begun is.
          draft_longer _ _ _ name begun inv.done piece (inv.draft name begun is) more;
      named = draft_named _ _ piece inv.there more ∙ inv.named;
      files = c.in_ok-taken.ensures.files ∙ inv.files;
      faults = c.in_ok-taken.ensures.cause ∙ inv.faults;
    }
