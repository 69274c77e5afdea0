-- What is printed of a fault of the payments.
use Rattle.std.specs.Prelude.{ℕ, List, ◌++◌, codes, decimal}
use Rattle.payments.specs.declared.read.PFault.{PFault}
use Rattle.payments.specs.declared.read.PFault.TheVariants as rows

-- a fault of the payments: its code, and its row and column where it has them
abbrev pub payments_words : PFault → List ℕ
payments_words rows.NoHeader = codes "P1"
payments_words rows.Header = codes "P2"
payments_words (rows.Length row) = codes "P3 row " ++ decimal row
payments_words (rows.Source row) = codes "P4 row " ++ decimal row
payments_words (rows.Value row column) =
    codes "P5 row " ++ decimal row ++ codes " column " ++ decimal column
payments_words (rows.TextLong row column) =
    codes "P6 row " ++ decimal row ++ codes " column " ++ decimal column
payments_words (rows.TooMuch row) = codes "P7 row " ++ decimal row
payments_words rows.NoMemory = codes "memory"
