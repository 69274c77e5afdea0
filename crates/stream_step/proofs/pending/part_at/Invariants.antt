use Rattle.std.proofs.Common.{◌≡◌, map}
use Rattle.stream_step.specs.Pending.{due_by, left_by, lifted}
use Rattle.stream_step.proofs.pending.part_at.Given as goal

-- the requests so far, parted
abbrev pub invariant-loop-request : goal.invariant-loop-request
invariant-loop-request l = record {
  due : l.parted.due ≡ map (lifted l.fn.fed) (due_by l.fn.last l.yielded);
  left : l.parted.left ≡ left_by l.fn.last l.yielded;
}
