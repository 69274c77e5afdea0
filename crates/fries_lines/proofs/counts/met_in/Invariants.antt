use Rattle.std.proofs.Common.{◌≡◌, ◌+◌, drop, sum_by}
use Rattle.fries_lines.specs.Lines.{met_count}
use Rattle.fries_lines.proofs.counts.met_in.Given as goal

abbrev pub invariant-loop-journal : goal.invariant-loop-journal
invariant-loop-journal l = l.count + sum_by met_count (drop l.journal-index l.journals) ≡ sum_by met_count l.journals
