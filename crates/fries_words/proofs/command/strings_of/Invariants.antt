use Rattle.std.proofs.Common.{◌≡◌, ◌++◌, drop}
use Rattle.fries_words.specs.Views.{texts}
use Rattle.fries_words.proofs.command.strings_of.Given as goal

abbrev pub invariant-loop-word : goal.invariant-loop-word
invariant-loop-word l = texts l.strings.items ++ drop l.word-index l.words ≡ l.words
