use Rattle.std.proofs.Common.{[], ◌∙◌, ap, arith, sym}
use Rattle.std.specs.Prelude.{Ok}
use Rattle.sink_journal.specs.Records.{records_text}
use Rattle.text_threads.proofs.ShareLemmas.{both-ok, shares-text}
use Rattle.text_threads.proofs.team.Team.text_of.Goals as goal

pub returns : goal.returns
returns g c =
    let xs = c.as_slice-pieces.result.now in
    let rs = c.in_ok-texts.texts.items in
    let size = c.max-share.result in
    both-ok c.joined.result c.joined.ensures.made c.joined.ensures.whole (λ all text is.
    is
    ∙ shares-text size xs rs (Ok []) (omega arith)
    (sym c.in_ok-texts.texts.ok.0 ∙ c.in_ok-texts.ensures.len) all
    (λ n below.
    let k = (c.in_ok-texts.ensures.each n (Ok []) below).1 in
    rw (← k.argument_is.value) k.call)
    ∙ ap (λ r. records_text r) c.as_slice-pieces.ensures)
