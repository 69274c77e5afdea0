use Rattle.std.proofs.Common.{◌∙◌, sym}
use Rattle.versions.proofs.BookLemmas.{accepted_end, accepted_more, eq_apart, long_still, other_place, twice_more}
use Rattle.versions.proofs.book.accept.Goals as goal

pub loop-change-preserved : goal.loop-change-preserved
loop-change-preserved c =
    let items = c.as_slice-change-items.result.now in
    let change = c.change-item.result in
    let more = accepted_more c.loop-change.next items c.loop-change.change-index change c.loop-change-test.true c.change-item.is in
    rw (c.change.ensures, c.in_ok-func.ensures) record {
      long = long_still c.loop-change.next change.node _ ∙ c.loop-change.invariant.long;
      same = λ node none.
          let parts = twice_more items c.loop-change.change-index change node c.loop-change-test.true c.change-item.is none in
          other_place c.loop-change.next change.node node _ (eq_apart change.node node parts.1) ∙ c.loop-change.invariant.same node parts.0;
      rest = sym more ∙ c.loop-change.invariant.rest;
    }

pub returns : goal.returns
returns c =
    rw (← c.as_slice-change-items.ensures) (sym (accepted_end c.loop-change.next c.as_slice-change-items.result.now c.loop-change.change-index c.loop-change-test.false) ∙ c.loop-change.invariant.rest)
