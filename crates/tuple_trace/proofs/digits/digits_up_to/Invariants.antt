use Rattle.std.proofs.Common.{◌≡◌, drop, Some}
use Rattle.tuple_trace.specs.Digits.{digits_after, digits_of}
use Rattle.tuple_trace.proofs.digits.digits_up_to.Given as goal

abbrev pub invariant-loop-byte : goal.invariant-loop-byte
invariant-loop-byte l = digits_after (Some l.number) (drop l.byte-index l.text) ≡ digits_of l.text
