use Rattle.std.proofs.Common.{◌∙◌, ◌++◌}
use Rattle.std.specs.Slice.Iter.{chunks_rest}
use Rattle.sink_journal.specs.Alerts.{layout, sink_alerts}
use Rattle.text_threads.proofs.PieceLemmas.{shown-step}
use Rattle.text_threads.proofs.pieces.Pieces.push_shown.Goals as goal

pub loop-part-preserved : goal.loop-part-preserved
loop-part-preserved c =
    let steps = c.in-Some.ensures.steps in
    let name = c.args.name.now in
    let kinds = layout c.args.columns.now c.args.listed.now in
    record {
      size = steps.0 ∙ c.loop-part.invariant.size;
      pieces =
          shown-step name kinds c.loop-part.self c.push.new.self
          (c.args.self.now ++ sink_alerts name kinds c.args.steps.now)
          (chunks_rest c.loop-part.part-iterator) c.in-Some.part.now (chunks_rest c.next.new.self)
          c.in_ok-push.ensures steps.1.0 c.loop-part.invariant.pieces;
    }
