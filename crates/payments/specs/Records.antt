-- The records of a text that a reader has still to read.
use Rattle.std.specs.Prelude.{◌≡◌, ◌+◌, ◌||◌, ℕ, false, is_none, IsTrue, List, [], length, Option}
use Rattle.std.specs.Prelude.{None, Some}
use Rattle.std.specs.Borrow.{Bor}
use Rattle.csv.specs.Reading.{default_config, has_failed, names_headers, reader_config}
use Rattle.csv.specs.Reading.{reader_headers, reader_state, reader_trim, records_from, source_of}
use Rattle.csv.specs.Reading.{took_first}
use Rattle.csv.specs.declared.parser.State.{State}
use Rattle.csv.specs.declared.reader.Reader.{Reader}
use Rattle.csv.specs.declared.reader.Trim.TheVariants as trim

-- the records of the bytes that are left at a state, if any bytes are known
abbrev pub records_of : State → Option (List ℕ) → List (List (List ℕ))
records_of state None = []
records_of state (Some text) = records_from default_config (length text + 1) state text

-- the records that a reader of a text has left; none after it failed
abbrev pub unread_of : Reader (Bor (List ℕ)) → List (List (List ℕ))
unread_of reader = records_of (reader_state reader) (source_of (λ s. Some s.now) reader)

-- as long as it hasn't failed, a reader reads by the crate's defaults and takes no record for a
-- header
pub record Plain (reader : Reader (Bor (List ℕ))) : Type 0 where
  pub config : reader_config reader ≡ default_config
  pub trim : reader_trim reader ≡ trim.None
  pub headless : names_headers reader ≡ false
  pub ready : IsTrue (took_first reader || is_none (reader_headers reader))

-- what a reader of a text keeps
abbrev pub AreUnread : Reader (Bor (List ℕ)) → Type 0
AreUnread reader = has_failed reader ≡ false → Plain reader
