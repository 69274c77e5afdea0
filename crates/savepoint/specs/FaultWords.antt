-- What is printed of a fault of a savepoint.
use Rattle.std.specs.Prelude.{ℕ, List, ◌++◌, codes, decimal}
use Rattle.savepoint.specs.declared.fault.SaveFault.{SaveFault}
use Rattle.savepoint.specs.declared.fault.SaveFault.TheVariants as save

-- a fault of the savepoint: its code, and the record or the number that it names
abbrev pub save_words : SaveFault → List ℕ
save_words (save.Shape number) = codes "S1 record " ++ decimal number
save_words (save.Past row) = codes "S2 rows " ++ decimal row
save_words (save.Count requests) = codes "S3 requests " ++ decimal requests
save_words (save.State number) = codes "S4 record " ++ decimal number
save_words save.NoMemory = codes "memory"
