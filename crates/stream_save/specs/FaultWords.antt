-- What is printed of a fault of a stream's savepoint.
use Rattle.std.specs.Prelude.{ℕ, List, ◌++◌, codes, decimal}
use Rattle.stream_save.specs.declared.fault.StreamSaveFault.{StreamSaveFault}
use Rattle.stream_save.specs.declared.fault.StreamSaveFault.TheVariants as fault

-- a fault of the savepoint: its code, and the record or the number that it names
abbrev pub stream_save_words : StreamSaveFault → List ℕ
stream_save_words (fault.Shape number) = codes "S1 record " ++ decimal number
stream_save_words (fault.Past row) = codes "S2 rows " ++ decimal row
stream_save_words (fault.Count number) = codes "S3 record " ++ decimal number
stream_save_words (fault.State number) = codes "S4 record " ++ decimal number
stream_save_words (fault.Alerts length) = codes "S5 alerts " ++ decimal length
stream_save_words (fault.Audit length) = codes "S5 audit " ++ decimal length
stream_save_words fault.NoMemory = codes "memory"
