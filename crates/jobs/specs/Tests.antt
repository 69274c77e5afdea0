-- The tests of conditions, a row each.
use Rattle.std.specs.Prelude.{ℕ, Bool, true, false, List, [], ◌∷◌, Option, codes, find}
use Rattle.std.specs.Str.{bytes_eq}
use Rattle.jobs.specs.declared.func.Test.{Test}
use Rattle.jobs.specs.declared.func.Test.TheVariants as test

-- the word of a test, whether it tests texts too, and of which numbers it holds; the fields are
-- those of `TestRow`
pub record TestView : Type 0 where
  pub word : List ℕ
  pub texts : Bool
  pub less : Bool
  pub equal : Bool
  pub greater : Bool

-- the row of a test
abbrev pub row_of_test : Test → TestView
row_of_test test.Eq =
    record { word = codes "="; texts = true; less = false; equal = true; greater = false }
row_of_test test.Ne =
    record { word = codes "!="; texts = true; less = true; equal = false; greater = true }
row_of_test test.Lt =
    record { word = codes "<"; texts = false; less = true; equal = false; greater = false }
row_of_test test.Le =
    record { word = codes "<="; texts = false; less = true; equal = true; greater = false }
row_of_test test.Gt =
    record { word = codes ">"; texts = false; less = false; equal = false; greater = true }
row_of_test test.Ge =
    record { word = codes ">="; texts = false; less = false; equal = true; greater = true }

-- all tests
abbrev pub all_tests : List Test
all_tests = test.Eq ∷ test.Ne ∷ test.Lt ∷ test.Le ∷ test.Gt ∷ test.Ge ∷ []

-- the test has the word
abbrev pub has_word : List ℕ → Test → Bool
has_word word test = bytes_eq word (row_of_test test).word

-- the test of a word
abbrev pub test_named : List ℕ → Option Test
test_named word = find (has_word word) all_tests
