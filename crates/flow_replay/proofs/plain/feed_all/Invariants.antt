use Rattle.flow_replay.specs.inner.Executor.{HasFed}
use Rattle.flow_replay.proofs.plain.feed_all.Given as goal

abbrev pub invariant-loop-place : goal.invariant-loop-place
invariant-loop-place l = HasFed l.fn.executor.setup.now l.list l.place l.executor
