-- Kinds and tests are found by their words.
use Rattle.std.proofs.Common.{◌≡◌, Some, refl, true}
use Rattle.jobs.specs.declared.func.Test.{Test}
use Rattle.jobs.specs.declared.func.Test.TheVariants as test
use Rattle.jobs.specs.declared.kind.Kind.{Kind}
use Rattle.jobs.specs.declared.kind.Kind.TheVariants as kind
use Rattle.jobs.specs.Kinds.{is_kind, kind_named, row_of}
use Rattle.jobs.specs.Tests.{row_of_test, test_named}

pub kind_by_name : (k : Kind) → kind_named (row_of k).name ≡ Some k
kind_by_name kind.Source = refl
kind_by_name kind.Filter = refl
kind_by_name kind.Map = refl
kind_by_name kind.Enrich = refl
kind_by_name kind.Count = refl
kind_by_name kind.Dedupe = refl
kind_by_name kind.Clamp = refl
kind_by_name kind.Split = refl
kind_by_name kind.Replicate = refl
kind_by_name kind.Sink = refl

pub one_kind : (a b : Kind) → is_kind a b ≡ true → a ≡ b
one_kind kind.Source kind.Source e = refl
one_kind kind.Filter kind.Filter e = refl
one_kind kind.Map kind.Map e = refl
one_kind kind.Enrich kind.Enrich e = refl
one_kind kind.Count kind.Count e = refl
one_kind kind.Dedupe kind.Dedupe e = refl
one_kind kind.Clamp kind.Clamp e = refl
one_kind kind.Split kind.Split e = refl
one_kind kind.Replicate kind.Replicate e = refl
one_kind kind.Sink kind.Sink e = refl
one_kind _ _ e = absurd (cc)

pub test_by_word : (t : Test) → test_named (row_of_test t).word ≡ Some t
test_by_word test.Eq = refl
test_by_word test.Ne = refl
test_by_word test.Lt = refl
test_by_word test.Le = refl
test_by_word test.Gt = refl
test_by_word test.Ge = refl
