use Rattle.std.proofs.Common.{refl}
use Rattle.stream_rows.proofs.ReadLemmas.{IsReadTo-first}
use Rattle.stream_rows.proofs.reader.RowReader.after.Goals as goal

pub returns-clause-read : goal.returns-clause-read
returns-clause-read c job = IsReadTo-first job c.args.skipped _ refl refl refl
