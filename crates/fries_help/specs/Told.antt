-- What a message tells.
use Rattle.std.specs.Prelude.{◌≡◌, ◌++◌, ℕ, List, Some, codes}
use Rattle.fries_help.specs.Table.{help_with}
use Rattle.fries_help.specs.declared.table.HelpIn.{HelpIn}

-- a first line, what a code means, what a file tells of it, and what to do
abbrev pub message : List ℕ → HelpIn (List ℕ) → List ℕ → List ℕ
message head help detail =
    head ++ codes "\n  " ++ help.cause ++ codes "\n" ++ detail ++ codes "  " ++ help.cure
    ++ codes "\n"

-- the text is a message with the sentences of the row of the table that has this code
pub record TellsHelp (code text : List ℕ) : Type 0 where
  pub head : List ℕ
  pub detail : List ℕ
  pub help : HelpIn (List ℕ)
  pub help_is : help_with code ≡ Some help
  pub text_is : text ≡ message head help detail
