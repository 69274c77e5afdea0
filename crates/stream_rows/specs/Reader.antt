-- How far a reader of a stream's rows has come.
use Rattle.std.specs.Prelude.{◌≡◌, ◌+◌, ◌||◌, ℕ, Bool, true, false, List, [], ◌∷◌, length, Option}
use Rattle.std.specs.Prelude.{None, Some, if◌then◌else◌}
use Rattle.csv.specs.Reading.{default_config, records, strip_bom}
use Rattle.jobs.specs.JobView.{JobView}
use Rattle.payments.specs.declared.read.PFault.{PFault}
use Rattle.payments.specs.declared.read.PFault.TheVariants as fault
use Rattle.stream_rows.specs.Rows.{rows_under_header, sound_rows, stream_rows}
use Rattle.stream_rows.specs.declared.reader.RowReader.{RowReader}
use Rattle.stream_rows.specs.declared.sound.SoundRows.{SoundRows}

-- how many rows were skipped or read
abbrev pub fed_of : RowReader → ℕ
fed_of reader = reader.fed

-- whether there is an item
abbrev pub has_items : {A : Type 0} → List A → Bool
has_items [] = false
has_items (first ∷ later) = true

-- the text so far was read, before which rows were skipped, and no fault was found in it
pub record IsReadTo (job : JobView) (skipped : ℕ) (reader : RowReader) (text : List ℕ)
    : Type 0 where
  pub begun : reader.begun ≡ has_items text
  pub header : reader.has_header ≡ has_items (records default_config (strip_bom text))
  pub fed : reader.fed ≡ skipped + length (stream_rows job skipped text).rows
  pub sound : (stream_rows job skipped text).fault ≡ None

-- the text of a piece: a mark stands only at the start of the first
abbrev pub text_of : Bool → List ℕ → List ℕ
text_of begun piece = if begun then piece else strip_bom piece

-- the rows of these records after this number of others; the header may still be to come
abbrev pub rows_at : JobView → Bool → ℕ → List (List (List ℕ)) → SoundRows
rows_at job has_header fed records =
    if has_header then sound_rows job (fed + 1) records else rows_under_header job fed records

-- a reader read these records, and is another then
pub record HasRead (job : JobView) (old new : RowReader) (records : List (List (List ℕ)))
    (sound : SoundRows) : Type 0 where
  pub rows : sound ≡ rows_at job old.has_header old.fed records
  pub begun : new.begun ≡ old.begun
  pub fed : new.fed ≡ old.fed + length sound.rows
  pub header : sound.fault ≡ None
      → new.has_header ≡ (old.has_header || has_items records)

-- the fault of a stream that ends here
abbrev pub end_fault : RowReader → Option PFault
end_fault reader = if reader.has_header then None else Some fault.NoHeader
