use Rattle.std.proofs.Common.{drop, map}
use Rattle.clap.specs.Words.{app_of}
use Rattle.fries_words.specs.Apps.{shape_on, topic_view, with_shapes}
use Rattle.fries_words.proofs.AppLemmas.{Grows}
use Rattle.fries_words.proofs.apps.with_commands.Given as goal

abbrev pub invariant-loop-pair : goal.invariant-loop-pair
invariant-loop-pair l =
    Grows l.program (map shape_on (map topic_view (drop l.pair-index l.commands)))
    (with_shapes (app_of l.fn.program) (map shape_on (map topic_view l.commands)))
