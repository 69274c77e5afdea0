-- The rows of a stream of payments: those before the first fault, and that fault.
use Rattle.std.specs.Prelude.{◌+◌, ◌/◌, ℕ, max, nat_eq, List, [], ◌∷◌, ◌++◌, length, None, Some}
use Rattle.std.specs.Prelude.{Result, Ok, Err, if◌then◌else◌}
use Rattle.std.specs.Cmp.Lexicographic.{pointwise}
use Rattle.csv.specs.Reading.{default_config, records, strip_bom}
use Rattle.tuple_trace.specs.declared.row.Row.{Row}
use Rattle.jobs.specs.JobView.{JobView}
use Rattle.jobs.specs.Weights.{weight}
use Rattle.payments.specs.Reading.{header_of, row_from, work_max}
use Rattle.payments.specs.declared.read.PFault.{PFault}
use Rattle.payments.specs.declared.read.PFault.TheVariants as fault
use Rattle.stream_rows.specs.declared.sound.SoundRows.{SoundRows}

-- the row of a record, whatever its number, or what is wrong with it: first its length, then its
-- source, and its columns from left to right
abbrev pub stream_row : JobView → ℕ → List (List ℕ) → Result Row PFault
stream_row job row cells =
    if nat_eq (length cells) (length (header_of job)) then row_from job row cells
    else Err (fault.Length row)

-- no row, and no fault
abbrev pub no_rows : SoundRows
no_rows = record { rows = []; fault = None }

-- no row before this fault
abbrev pub only_fault : PFault → SoundRows
only_fault fault = record { rows = []; fault = Some fault }

-- rows, and then those of what comes after them, with its fault
abbrev pub and_then : List Row → SoundRows → SoundRows
and_then rows later = record { rows = rows ++ later.rows; fault = later.fault }

-- a row or a fault, and the rows after it; none after a fault
abbrev pub followed_by : Result Row PFault → SoundRows → SoundRows
followed_by (Err fault) later = only_fault fault
followed_by (Ok row) later = record { rows = row ∷ later.rows; fault = later.fault }

-- the row as it is read with this number
abbrev pub numbered : ℕ → Row → Row
numbered number row = record {
  source = row.source;
  tuple = record {
    row = number;
    birth = [];
    issued = 0;
    fields = row.tuple.fields;
    trace = [];
  };
}

-- the rows of these records, of which the first has this number
unfoldable pub sound_rows : JobView → ℕ → List (List (List ℕ)) → SoundRows
sound_rows job row [] = no_rows
sound_rows job row (first ∷ later) =
    followed_by (stream_row job row first) (sound_rows job (row + 1) later)

-- the rows after a header, which may still be to come, and this number of others
abbrev pub rows_under_header : JobView → ℕ → List (List (List ℕ)) → SoundRows
rows_under_header job skipped [] = no_rows
rows_under_header job skipped (header ∷ later) =
    if pointwise (pointwise nat_eq) header (header_of job) then sound_rows job (skipped + 1) later
    else only_fault fault.Header

-- the rows of a stream whose text so far is this, and before which this number of rows was skipped
abbrev pub stream_rows : JobView → ℕ → List ℕ → SoundRows
stream_rows job skipped text =
    rows_under_header job skipped (records default_config (strip_bom text))

-- how many rows of a job a run may have; a job without weight has those of weight 1
abbrev pub most_rows_of : JobView → ℕ
most_rows_of job = work_max / max (weight job) 1
