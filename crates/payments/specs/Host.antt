-- What the files and the output of the system have counted.
use Rattle.std.specs.Prelude.{ℕ, Option, None, option_map}
use Rattle.payments.specs.Causes.{Faults}
use Rattle.payments.specs.Files.{Draft}
use Rattle.payments.specs.World.{ShelfState, SinkState}
use Rattle.payments.specs.declared.host.HostShelf.{HostShelf}
use Rattle.payments.specs.declared.host.StdOut.{StdOut}

-- what the files have counted
abbrev pub host_faults_of : {R File Folder : Type 0} → HostShelf R File Folder → Faults
host_faults_of shelf = record {
  reads = shelf.read_faults;
  writes = shelf.write_faults;
  failed = shelf.failed;
}

-- the draft, if there is one
abbrev pub host_draft_of : {R File Folder : Type 0} → HostShelf R File Folder → Option Draft
host_draft_of shelf = option_map (λ draft. record { name = draft.name; files = None }) shelf.draft

-- the files of the system as a shelf, which tells none of their bytes
abbrev pub host_state_of : {R File Folder : Type 0} → HostShelf R File Folder → ShelfState
host_state_of shelf = record {
  files = None;
  faults = host_faults_of shelf;
  draft = host_draft_of shelf;
}

-- how many writes to the output have failed
abbrev pub out_faults_of : {R : Type 0} → StdOut R → ℕ
out_faults_of out = out.faults

-- the output of the system as a stream, which doesn't tell what was written
abbrev pub out_state_of : {R : Type 0} → StdOut R → SinkState
out_state_of out = record { written = None; faults = out_faults_of out }
