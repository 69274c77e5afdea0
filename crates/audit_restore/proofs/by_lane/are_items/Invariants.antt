use Rattle.std.proofs.Common.{◌≡◌, map, take}
use Rattle.audit_laws.specs.Faults.{seen}
use Rattle.audit_restore.proofs.by_lane.are_items.Given as goal

abbrev pub invariant-loop-place : goal.invariant-loop-place
invariant-loop-place l = map (seen l.lane) (take l.place l.items.items) ≡ map (λ entry. entry.now) (take l.place l.entries)
