use Rattle.std.proofs.Common.{◌≡◌, take}
use Rattle.std.specs.Prelude.{fold}
use Rattle.tuple_trace.specs.Spread.{hash_after}
use Rattle.tuple_trace.proofs.place.spread.Given as goal

abbrev pub invariant-loop-byte : goal.invariant-loop-byte
invariant-loop-byte l = l.hash ≡ fold hash_after 0 (take l.byte-index l.text)
