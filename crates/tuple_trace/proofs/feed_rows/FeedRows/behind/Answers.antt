use Rattle.tuple_trace.proofs.BlankLemmas.{numbered_on}
use Rattle.tuple_trace.proofs.feed_rows.FeedRows.behind.Goals as goal

pub invariant_of-result : goal.invariant_of-result
invariant_of-result c = (numbered_on c.args.source c.args.skipped c.args.rows.now c.requires.numbered, c.requires.few)
