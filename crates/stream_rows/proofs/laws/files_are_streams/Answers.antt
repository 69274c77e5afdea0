use Rattle.csv.specs.Reading.{default_config, records, strip_bom}
use Rattle.stream_rows.proofs.NumberLemmas.{rows_under_header-file}
use Rattle.stream_rows.proofs.laws.files_are_streams.Goals as goal

pub returns : goal.returns
returns c job text rows is =
    rows_under_header-file job (records default_config (strip_bom text)) rows is
