-- What a run on threads leaves.
use Rattle.std.specs.Prelude.{ℕ, List, map}
use Rattle.sink_journal.specs.declared.journal.Feed.{Feed}
use Rattle.flow_model.specs.declared.record.RunRecord.{RunRecord}
use Rattle.flow_model.specs.declared.setup.Setup.{Setup}
use Rattle.flow_worker.specs.Parts.{WorkedIs}

abbrev pub number_worked : WorkedIs → ℕ
number_worked worked = worked.number

-- the record of a run: its setup and its feed, and the journals and the counts of its workers
abbrev pub flown_record : Setup → List Feed → List WorkedIs → RunRecord
flown_record setup feeds crew = record {
  setup = setup;
  feeds = feeds;
  journals = map (λ (w : WorkedIs). w.journal) crew;
  states = map (λ (w : WorkedIs). w.state) crew;
}
