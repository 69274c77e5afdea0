use Rattle.row_threads.proofs.CutLemmas.{cut_more, join_more}
use Rattle.row_threads.proofs.shares.shares_of.Goals as goal

pub loop-preserved : goal.loop-preserved
loop-preserved c =
    let old = c.loop.shares.items in
    let new = c.push.new.self.items in
    let share = c.cut.result.0 in
    record {
      cut = cut_more old new share c.in_ok-push.ensures.items c.loop.invariant.cut c.cut.ensures.cut;
      whole = join_more old new share c.args.text.now c.loop.rest.now c.cut.result.1.now
          c.in_ok-push.ensures.items c.loop.invariant.whole c.cut.ensures.whole;
    }
