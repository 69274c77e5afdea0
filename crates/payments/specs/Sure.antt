-- A shelf and a sink that never fail.
use Rattle.std.specs.Prelude.{ℕ, List, Option, None, Some}
use Rattle.payments.specs.Causes.{Faults}
use Rattle.payments.specs.Files.{Draft, Files}
use Rattle.payments.specs.Memory.{draft_of, files_of, written_of}
use Rattle.payments.specs.World.{ShelfState, SinkState}
use Rattle.payments.specs.declared.sure.SureShelf.{SureShelf}
use Rattle.payments.specs.declared.sure.SureSink.{SureSink}

-- what a sure shelf holds
abbrev pub sure_files : SureShelf → Files
sure_files shelf = files_of shelf.shelf

-- the draft, if there is one
abbrev pub sure_draft : SureShelf → Option Draft
sure_draft shelf = draft_of shelf.shelf

-- no read and no write has failed
abbrev pub no_faults : Faults
no_faults = record { reads = 0; writes = 0; failed = None }

-- a sure shelf as a shelf, which tells its files and counts no fault
abbrev pub sure_state_of : SureShelf → ShelfState
sure_state_of shelf = record {
  files = Some (sure_files shelf);
  faults = no_faults;
  draft = sure_draft shelf;
}

-- what was written to a sure sink
abbrev pub sure_written : SureSink → List ℕ
sure_written sink = written_of sink.sink

-- a sure sink as a stream, which tells what was written and counts no fault
abbrev pub sure_sink_state_of : SureSink → SinkState
sure_sink_state_of sink = record { written = Some (sure_written sink); faults = 0 }
