use Rattle.std.proofs.Common.{◌≡◌, map}
use Rattle.std.specs.List.{AllWithin}
use Rattle.flow_runner.specs.Rule.{fixed_of, HasEnded}
use Rattle.flow_worker.specs.declared.worker.Turn.TheVariants.{Done}
use Rattle.flow_runner.proofs.steps.round.Given as goal

abbrev pub invariant-loop-i : goal.invariant-loop-i
invariant-loop-i g l = record {
  seats : map fixed_of l.kept.items ≡ map fixed_of l.fn.kept.items;
  finished : l.whole ≡ Done → AllWithin HasEnded l.kept.items 0 l.i;
}
