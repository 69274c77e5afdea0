use Rattle.std.proofs.Common.{◌≡◌, [], map}
use Rattle.std.specs.List.{range_with_len}
use Rattle.audit_stream.specs.Sorting.{group_text}
use Rattle.audit_stream.proofs.groups.empty_texts.Given as goal

abbrev pub invariant-loop-group : goal.invariant-loop-group
invariant-loop-group l = l.texts.items ≡ map (group_text l.workers []) (range_with_len 0 l._group)
