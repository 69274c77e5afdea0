use Rattle.std.proofs.Common.{◌≡◌, ◌≤◌, length, take}
use Rattle.fries_verify.proofs.alerts.first_difference.Given as goal

abbrev pub invariant-loop-place : goal.invariant-loop-place
invariant-loop-place l = (l.place ≤ length l.text) × (take l.place l.text ≡ take l.place l.other)
