use Rattle.std.proofs.Common.{◌∙◌, List, ap, sym, length}
use Rattle.tuple_trace.specs.declared.row.Row.{Row}
use Rattle.tuple_trace.proofs.BlankLemmas.{all_long}
use Rattle.tuple_trace.proofs.feed_rows.FeedRows.len.Goals as goal

pub returns : goal.returns
returns c = sym (all_long c.self.inside.source c.self.inside.skipped c.self.inside.rows.now) ∙ ap (λ (l : List Row). length l) c.self.view_is
