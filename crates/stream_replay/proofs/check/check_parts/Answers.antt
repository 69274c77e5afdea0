use Rattle.std.proofs.Common.{◌≡◌, Some, sym}
use Rattle.audit_laws.specs.Fits.{csv_records}
use Rattle.audit_parts.specs.Cut.{parts_of}
use Rattle.audit_parts.specs.Reading.{parts_left}
use Rattle.stream_replay.specs.InParts.{given_in_parts}
use Rattle.stream_replay.proofs.LoopLemmas.{err_found}
use Rattle.stream_replay.proofs.check.check_parts.Goals as goal

pub returns-in-Some-clause-found : goal.returns-in-Some-clause-found
returns-in-Some-clause-found c earlier last same runs =
    let records = csv_records c.args.bytes.now in
    let parts : Some (parts_left c.in-Some.parts) ≡ parts_of records =
    rw c.in-Some.is at c.in_ok-parts.ensures.parts in
    err_found c.check_all.result (given_in_parts c.args.setup c.args.rows.now)
    (parts_left c.in-Some.parts) records (sym parts) earlier last same runs
    c.check_all.ensures.loose
