use Rattle.std.proofs.Common.{◌≡◌, drop}
use Rattle.std.specs.Prelude.{find}
use Rattle.jobs.specs.Tests.{has_word, test_named}
use Rattle.jobs.proofs.func.Test.named.Given as goal

abbrev pub invariant-loop-test : goal.invariant-loop-test
invariant-loop-test l = find (has_word l.word) (drop l.test-index l.test-items) ≡ test_named l.word
