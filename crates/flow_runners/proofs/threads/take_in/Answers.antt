use Rattle.std.proofs.Common.{ap}
use Rattle.flow_runner.specs.declared.rule.Tally.{Tally}
use Rattle.flow_runners.proofs.Uniting.{united}
use Rattle.flow_runners.proofs.threads.take_in.Goals as goal

pub unite-requires-clause-queue : goal.unite-requires-clause-queue
unite-requires-clause-queue g c κs within = c.requires.queue

pub unite-requires-clause-part : goal.unite-requires-clause-part
unite-requires-clause-part g c κs within = c.requires.some

pub returns-in-Ok-clause-queue : goal.returns-in-Ok-clause-queue
returns-in-Ok-clause-queue g c = c.unite.ensures.queue

pub returns-in-Ok-clause-parts : goal.returns-in-Ok-clause-parts
returns-in-Ok-clause-parts g c = ap (λ (h : Tally). h.parts) c.unite.ensures.both

pub returns-in-Ok-clause-listed : goal.returns-in-Ok-clause-listed
returns-in-Ok-clause-listed g c = united _ _ _ _ _ _ _ c.in-Ok.ensures.items (ap (λ (h : Tally). h.list) c.unite.ensures.both) c.requires.own c.requires.back
