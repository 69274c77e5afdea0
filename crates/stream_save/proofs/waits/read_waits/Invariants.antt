use Rattle.std.proofs.Common.{◌≡◌, ◌+◌, ◌-◌, drop}
use Rattle.savepoint_file.specs.Steps.{with_those_after}
use Rattle.stream_save.specs.StreamReading.{waits_read}
use Rattle.stream_save.proofs.waits.read_waits.Given as goal

abbrev pub invariant-loop-done : goal.invariant-loop-done
invariant-loop-done l = record {
  waits :
      with_those_after l.waits (waits_read (l.turned - l.done) (l.done + 1) l.records)
      ≡ waits_read l.turned 1 l.fn.records;
  rest : drop (l.turned - l.done) l.records ≡ drop l.turned l.fn.records;
}
